-- what is kept holds on, and none of the instance before the place has data, but for those that are gone
use Rattle.std.proofs.Common.{◌≡◌, ◌-◌, List}
use Rattle.std.specs.List.{All}
use Rattle.std.specs.Prelude.{vec_len, vec_capacity}
use Rattle.dds_base.specs.declared.happening.Happening.{Happening}
use Rattle.dds_instances.specs.Known.{IsKnown}
use Rattle.dds_instances.specs.Table.{Table}
use Rattle.dds_cache.specs.Finding.{HoldsBut, IsSmall}
use Rattle.dds_cache.specs.Kept.{IsSummary}
use Rattle.dds_cache.proofs.PushLaws.{AreNoneBefore}
use Rattle.dds_cache.proofs.pushing.let_first_go.Given as goal

abbrev pub invariant-loop-place : goal.invariant-loop-place
invariant-loop-place l = record {
  holds : (table : Table) (h : List Happening) → IsKnown l.qos h l.known
      → HoldsBut l.qos table l.fn.samples.items h l.known.key → HoldsBut l.qos table l.samples.items h l.known.key;
  none : AreNoneBefore l.known l.samples.items l.place;
  small : All IsSmall l.fn.samples.items → All IsSmall l.samples.items;
  counted : IsSummary l.samples.items l.summary;
  len : vec_len l.samples ≡ vec_len l.fn.samples;
  capacity : vec_capacity l.samples ≡ vec_capacity l.fn.samples;
}

abbrev pub decreases-loop-place : goal.decreases-loop-place
decreases-loop-place l = vec_len l.fn.samples - l.place
