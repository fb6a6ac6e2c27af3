use Rattle.std.proofs.Common.{◌≡◌, ◌++◌, drop, take}
use Rattle.dds_ends.specs.Coming.{set_count}
use Rattle.dds_ends.proofs.coming.set_count.Given as goal

abbrev pub invariant-loop-row : goal.invariant-loop-row
invariant-loop-row l = record {
  whole : l.counts ≡ l.initial.counts;
  rest : set_count l.initial.counts l.fn.reader l.fn.count
      ≡ take l.row l.initial.counts ++ set_count (drop l.row l.initial.counts) l.fn.reader l.fn.count;
}
