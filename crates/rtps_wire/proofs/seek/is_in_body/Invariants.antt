use Rattle.std.proofs.Common.{length}
use Rattle.rtps_wire.proofs.Seeking.{Seeks}
use Rattle.rtps_wire.proofs.seek.is_in_body.Given as goal

abbrev pub invariant-loop-submessage : goal.invariant-loop-submessage
invariant-loop-submessage l = Seeks l.body l.left l.wanted l.has

abbrev pub decreases-loop-submessage : goal.decreases-loop-submessage
decreases-loop-submessage l = length l.left
