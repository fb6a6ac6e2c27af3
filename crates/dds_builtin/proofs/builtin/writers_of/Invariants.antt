-- those so far that are in the set
use Rattle.std.proofs.Common.{◌≡◌, map, take}
use Rattle.std.specs.Prelude.{filter}
use Rattle.dds_builtin.specs.Builtin.{builtin_writer, has_bit, writer_bit}
use Rattle.dds_builtin.proofs.builtin.writers_of.Given as goal

abbrev pub invariant-loop-topic : goal.invariant-loop-topic
invariant-loop-topic l =
    l.all.items ≡ map (builtin_writer l.way) (filter (λ t. has_bit l.set (writer_bit t)) (take l.topic-index l.topic-items))
