use Rattle.std.proofs.Common.{◌≡◌, ◌+◌, ◌*◌, ◌≤◌, ◌++◌, drop, length}
use Rattle.dds_base.specs.Matched.{of_reliable_readers}
use Rattle.dds_ends.specs.EndNames.{reader_name, reader_names}
use Rattle.dds_ends.proofs.matching.reliable_readers.Given as goal

abbrev pub invariant-loop-index : goal.invariant-loop-index
invariant-loop-index l = record {
  names : l.all.items ++ of_reliable_readers reader_name l.fn.topic (l.index + l.fn.first) (drop l.index l.fn.peers)
      ≡ reader_names l.fn.topic l.fn.first l.fn.peers;
  few : length l.all.items ≤ 16 * l.index;
}
