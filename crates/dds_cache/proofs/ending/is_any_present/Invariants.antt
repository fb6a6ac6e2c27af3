-- none of those before the place is
use Rattle.std.proofs.Common.{◌≡◌, ◌-◌, List, false, length, take}
use Rattle.std.specs.List.{All, list_any}
use Rattle.dds_base.specs.declared.happening.Happening.{Happening}
use Rattle.dds_instances.specs.Table.{Stands}
use Rattle.dds_cache.specs.Kept.{IsKept, is_here}
use Rattle.dds_cache.proofs.ending.is_any_present.Given as goal

abbrev pub invariant-loop-place : goal.invariant-loop-place
invariant-loop-place l = record {
  none : (h : List Happening) → Stands l.qos l.instances h → All (IsKept l.qos h) l.samples
      → list_any (is_here l.qos h l.key) (take l.place l.samples) ≡ false;
}

abbrev pub decreases-loop-place : goal.decreases-loop-place
decreases-loop-place l = length l.samples - l.place
