-- those before the place that are pushed out are counted
use Rattle.std.proofs.Common.{◌≡◌, ◌≤◌, ◌-◌, List, length, take}
use Rattle.std.specs.List.{count_by}
use Rattle.dds_base.specs.declared.happening.Arrival.{Arrival}
use Rattle.dds_base.specs.declared.happening.Happening.{Happening}
use Rattle.dds_instances.specs.Table.{Table}
use Rattle.dds_cache.specs.Finding.{Holds}
use Rattle.dds_cache.specs.Pushing.{AwaitsOwn, is_pushed}
use Rattle.dds_cache.proofs.room.count_pushed.Given as goal

abbrev pub invariant-loop-place : goal.invariant-loop-place
invariant-loop-place l = record {
  few : l.count ≤ l.place;
  counted : (table : Table) (a : Arrival) (h : List Happening) → AwaitsOwn l.qos l.known a l.is_write l.is_marked h
      → Holds l.qos table l.samples h → l.count ≡ count_by (is_pushed l.qos a h) (take l.place l.samples);
}

abbrev pub decreases-loop-place : goal.decreases-loop-place
decreases-loop-place l = length l.samples - l.place
