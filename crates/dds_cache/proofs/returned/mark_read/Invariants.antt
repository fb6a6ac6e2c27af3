-- the samples at the places of the candidates so far are marked
use Rattle.std.proofs.Common.{◌≡◌, take}
use Rattle.std.specs.Prelude.{vec_len, vec_capacity}
use Rattle.dds_cache.specs.Finding.{AreChanged}
use Rattle.dds_cache.specs.Kept.{IsSummary, read_if}
use Rattle.dds_cache.proofs.returned.mark_read.Given as goal

abbrev pub invariant-loop-candidate : goal.invariant-loop-candidate
invariant-loop-candidate l = record {
  done : AreChanged read_if (take l.candidate-index l.found) l.fn.samples.items l.samples.items;
  counted : IsSummary l.samples.items l.summary;
  len : vec_len l.samples ≡ vec_len l.fn.samples;
  capacity : vec_capacity l.samples ≡ vec_capacity l.fn.samples;
}
