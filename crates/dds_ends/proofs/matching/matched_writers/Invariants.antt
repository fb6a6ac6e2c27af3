use Rattle.std.proofs.Common.{◌≡◌, ◌+◌, ◌*◌, ◌≤◌, ◌++◌, drop, length}
use Rattle.dds_base.specs.Matched.{of_matched_writers}
use Rattle.dds_ends.specs.EndNames.{writer_name, matched_writer}
use Rattle.dds_ends.proofs.matching.matched_writers.Given as goal

abbrev pub invariant-loop-index : goal.invariant-loop-index
invariant-loop-index l = record {
  names : l.all.names.items ++ of_matched_writers writer_name l.fn.topic (l.index + l.fn.first) (drop l.index l.fn.peers)
      ≡ of_matched_writers writer_name l.fn.topic l.fn.first l.fn.peers;
  qos : l.all.qos.items ++ of_matched_writers matched_writer l.fn.topic (l.index + l.fn.first) (drop l.index l.fn.peers)
      ≡ of_matched_writers matched_writer l.fn.topic l.fn.first l.fn.peers;
  few : length l.all.qos.items ≤ 16 * l.index;
}
