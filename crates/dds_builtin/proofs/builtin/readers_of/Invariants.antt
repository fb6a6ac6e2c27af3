-- those so far that are in the set
use Rattle.std.proofs.Common.{◌≡◌, map, take}
use Rattle.std.specs.Prelude.{filter}
use Rattle.dds_builtin.specs.Builtin.{builtin_reader, has_bit, reader_bit}
use Rattle.dds_builtin.proofs.builtin.readers_of.Given as goal

abbrev pub invariant-loop-topic : goal.invariant-loop-topic
invariant-loop-topic l =
    l.all.items ≡ map (builtin_reader l.way) (filter (λ t. has_bit l.set (reader_bit t)) (take l.topic-index l.topic-items))
