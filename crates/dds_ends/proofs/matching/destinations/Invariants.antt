use Rattle.std.proofs.Common.{◌≡◌, ◌≤◌, ◌+◌, ◌++◌, drop, length}
use Rattle.dds_ends.specs.Matching.{destinations}
use Rattle.dds_ends.proofs.matching.destinations.Given as goal

abbrev pub invariant-loop-index : goal.invariant-loop-index
invariant-loop-index l = record {
  names : l.all.items ++ destinations l.fn.topic (l.index + l.fn.first) (drop l.index l.fn.peers)
      ≡ destinations l.fn.topic l.fn.first l.fn.peers;
  few : length l.all.items ≤ l.index;
}
