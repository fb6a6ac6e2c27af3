use Rattle.std.proofs.Common.{length}
use Rattle.rtps_adapter.proofs.Standing.{Goes}
use Rattle.rtps_adapter.proofs.adapt.put_all.Given as goal

abbrev pub invariant-loop-frame : goal.invariant-loop-frame
invariant-loop-frame l = Goes l.way l.kinds l.source l.body l.left l.initial.out.items l.out.items

abbrev pub decreases-loop-frame : goal.decreases-loop-frame
decreases-loop-frame l = length l.left
