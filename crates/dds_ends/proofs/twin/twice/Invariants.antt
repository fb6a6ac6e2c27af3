use Rattle.std.proofs.Common.{◌≡◌}
use Rattle.dds_ends.specs.Twins.{Leaves}
use Rattle.dds_ends.proofs.twin.twice.Given as goal

abbrev pub invariant-loop-packet : goal.invariant-loop-packet
invariant-loop-packet l = record {
  leaves : Leaves l.yielded l.first.items;
  same : l.second.items ≡ l.first.items;
}
