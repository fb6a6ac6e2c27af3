use Rattle.std.proofs.Common.{length}
use Rattle.rtps_discovery.proofs.Saying.{Silent}
use Rattle.rtps_discovery.proofs.spdp.first_said.Given as goal

-- what was gone over says nothing to us
abbrev pub invariant-loop-frame : goal.invariant-loop-frame
invariant-loop-frame l = Silent l.own l.source l.domain l.body l.left l.for_us

abbrev pub decreases-loop-frame : goal.decreases-loop-frame
decreases-loop-frame l = length l.left
