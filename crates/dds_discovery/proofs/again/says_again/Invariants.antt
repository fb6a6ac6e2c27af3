use Rattle.std.proofs.Common.{length}
use Rattle.dds_discovery.proofs.Silence.{Silent}
use Rattle.dds_discovery.proofs.again.says_again.Given as goal

-- what was gone over says nothing
abbrev pub invariant-loop-frame : goal.invariant-loop-frame
invariant-loop-frame l = Silent l.body l.left

abbrev pub decreases-loop-frame : goal.decreases-loop-frame
decreases-loop-frame l = length l.left
