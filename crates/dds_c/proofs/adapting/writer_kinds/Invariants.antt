use Rattle.std.proofs.Common.{◌≡◌, map, take}
use Rattle.dds_c.specs.Adapting.{said_by, said_of}
use Rattle.dds_c.proofs.adapting.writer_kinds.Given as goal

abbrev pub invariant-loop-kind : goal.invariant-loop-kind
invariant-loop-kind l = map said_of l.made.items ≡ map (said_by l.fields) (take l.kind-index l.kinds)
