-- the samples so far are counted
use Rattle.std.proofs.Common.{◌≤◌, take}
use Rattle.dds_cache.specs.Kept.{IsSummary}
use Rattle.dds_cache.proofs.summary.Summary.renew.Given as goal

abbrev pub invariant-loop-place : goal.invariant-loop-place
invariant-loop-place l = record {
  few_outs : l.self.outs ≤ l.place;
  few_reads : l.self.reads ≤ l.place;
  few_writes : l.self.writes ≤ l.place;
  counted : IsSummary (take l.place l.samples) l.self;
}
