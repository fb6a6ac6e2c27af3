-- the values of the candidates so far are taken out, and are those of the collection
use Rattle.std.proofs.Common.{◌≡◌, ℕ, ◌<◌, length, take, get_or}
use Rattle.std.specs.Prelude.{vec_len, vec_capacity, nat_lt, if◌then◌else◌}
use Rattle.dds_base.specs.declared.sample.Sample.{Sample}
use Rattle.dds_cache.specs.declared.access_kind.AccessKind.TheVariants.{Read, Take}
use Rattle.dds_cache.specs.Kept.{IsSummary, out_if}
use Rattle.dds_cache.specs.Finding.{AreApart, AreChanged}
use Rattle.dds_cache.specs.Picking.{collected}
use Rattle.dds_cache.proofs.collection.take_out.Given as goal

abbrev pub invariant-loop-at : goal.invariant-loop-at
invariant-loop-at l = record {
  done : AreChanged out_if (take l.at l.found) l.fn.samples.items l.samples.items;
  counted : IsSummary l.samples.items l.summary;
  len : vec_len l.samples ≡ vec_len l.fn.samples;
  capacity : vec_capacity l.samples ≡ vec_capacity l.fn.samples;
  whole : length l.collection.items ≡ length l.found;
  so_far : AreApart l.found → l.fn.collection.items ≡ collected Take l.fn.samples.items l.found
      → (k : ℕ) (d : Sample) → k < length l.found
      → get_or l.collection.items k d
      ≡ get_or (if nat_lt k l.at then collected Read l.fn.samples.items l.found
      else collected Take l.fn.samples.items l.found) k d;
}
