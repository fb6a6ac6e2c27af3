use Rattle.std.proofs.Common.{◌≡◌, ◌+◌, ◌≤◌, ◌++◌, drop, length}
use Rattle.dds_base.specs.MatchedAt.{of_writers_in}
use Rattle.dds_ends.specs.EndNames.{writer_name, matched_writer}
use Rattle.dds_ends.proofs.matching.push_writers.Given as goal

abbrev pub invariant-loop-index : goal.invariant-loop-index
invariant-loop-index l = record {
  names : l.all.names.items ++ of_writers_in (writer_name l.fn.number l.fn.peer) l.fn.topic (l.index + 1)
      (drop l.index l.fn.peer.writers) ≡ l.initial.all.names.items
      ++ of_writers_in (writer_name l.fn.number l.fn.peer) l.fn.topic 1 l.fn.peer.writers;
  qos : l.all.qos.items ++ of_writers_in (matched_writer l.fn.number l.fn.peer) l.fn.topic (l.index + 1)
      (drop l.index l.fn.peer.writers) ≡ l.initial.all.qos.items
      ++ of_writers_in (matched_writer l.fn.number l.fn.peer) l.fn.topic 1 l.fn.peer.writers;
  few : length l.all.qos.items ≤ length l.initial.all.qos.items + l.index;
  whole : l.writer-items ≡ l.fn.peer.writers;
}
