use Rattle.std.proofs.Common.{length}
use Rattle.dds_builtin.proofs.Turning.{Turning}
use Rattle.dds_builtin.proofs.kinds.put_all.Given as goal

abbrev pub invariant-loop-frame : goal.invariant-loop-frame
invariant-loop-frame g l = Turning (g.K.EntityKinds.of_reader l.kinds) (g.K.EntityKinds.of_writer l.kinds) l.body l.left l.initial.out.items l.out.items

abbrev pub decreases-loop-frame : goal.decreases-loop-frame
decreases-loop-frame g l = length l.left
