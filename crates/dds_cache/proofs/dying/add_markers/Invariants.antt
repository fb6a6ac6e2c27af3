-- the samples of the instances so far are added
use Rattle.std.proofs.Common.{◌+◌, ◌≤◌, ◌∷◌, List, length, take}
use Rattle.std.specs.Prelude.{vec_len, vec_capacity}
use Rattle.dds_base.specs.declared.key.Key.{Key}
use Rattle.dds_base.specs.declared.happening.Happening.{Happening}
use Rattle.dds_base.specs.declared.happening.Happening.TheVariants.{Died}
use Rattle.dds_base.specs.declared.qos.ReaderQos.{ReaderQos}
use Rattle.dds_base.specs.Instance.{known_instances}
use Rattle.dds_instances.specs.Table.{Stands}
use Rattle.dds_cache.specs.Kept.{IsSummary, IsFresh}
use Rattle.std.specs.List.{All}
use Rattle.dds_cache.specs.Finding.{IsSmall}
use Rattle.dds_cache.specs.Dying.{AddsOf}
use Rattle.dds_cache.proofs.DeathLaws.{marked_among}
use Rattle.dds_cache.proofs.dying.add_markers.Given as goal

abbrev pub invariant-loop-place : goal.invariant-loop-place
invariant-loop-place l = record {
  len : vec_len l.samples ≤ vec_len l.fn.samples + marked_among l.instances l.place;
  capacity : vec_capacity l.fn.samples ≤ vec_capacity l.samples;
  small : All IsSmall l.fn.samples.items → All IsSmall l.samples.items;
  counted : IsSummary l.samples.items l.summary;
  added : (q : ReaderQos) (h : List Happening) → Stands q l.instances (Died l.writer l.moment ∷ h)
      → ((i : Key) → IsFresh h i)
      → AddsOf q (Died l.writer l.moment ∷ h) (length h + 1)
      (take l.place (known_instances q (Died l.writer l.moment ∷ h))) l.fn.samples.items l.samples.items;
}
