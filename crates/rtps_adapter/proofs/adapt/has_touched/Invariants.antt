use Rattle.std.proofs.Common.{length}
use Rattle.rtps_adapter.proofs.Standing.{Seeks}
use Rattle.rtps_adapter.proofs.adapt.has_touched.Given as goal

abbrev pub invariant-loop-frame : goal.invariant-loop-frame
invariant-loop-frame l = Seeks l.way l.kinds l.source l.body l.left l.has

abbrev pub decreases-loop-frame : goal.decreases-loop-frame
decreases-loop-frame l = length l.left
