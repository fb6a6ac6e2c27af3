use Rattle.std.proofs.Common.{◌≡◌, ◌+◌, ◌≤◌, ◌++◌, drop, length}
use Rattle.dds_ends.specs.EndNames.{topic_names_in}
use Rattle.dds_ends.proofs.matching.push_topic_names.Given as goal

abbrev pub invariant-loop-index : goal.invariant-loop-index
invariant-loop-index l = record {
  rows : l.all.items ++ topic_names_in l.fn.number l.fn.peer l.fn.topic (l.index + 1)
      (drop l.index l.fn.peer.readers) ≡ l.initial.all.items
      ++ topic_names_in l.fn.number l.fn.peer l.fn.topic 1 l.fn.peer.readers;
  few : length l.all.items ≤ length l.initial.all.items + l.index;
  whole : l.reader-items ≡ l.fn.peer.readers;
}
