-- it is noted of the instances of those so far
use Rattle.std.proofs.Common.{◌≡◌, List, true, take}
use Rattle.std.specs.List.{list_any}
use Rattle.dds_base.specs.declared.key.Key.{Key}
use Rattle.dds_base.specs.declared.happening.Happening.{Happening}
use Rattle.dds_base.specs.declared.qos.ReaderQos.{ReaderQos}
use Rattle.dds_base.specs.Instance.{is_known}
use Rattle.dds_instances.specs.Table.{Stands, alive_of, happened_of, is_held, room_of}
use Rattle.dds_cache.specs.Sweeping.{stays_of}
use Rattle.dds_cache.proofs.ending.hold_present.Given as goal

abbrev pub invariant-loop-kept : goal.invariant-loop-kept
invariant-loop-kept l = record {
  same : (q : ReaderQos) (h : List Happening) → Stands q l.fn.instances h → Stands q l.instances h;
  held : (h : List Happening) (i : Key) → Stands l.qos l.fn.instances h → is_known l.qos h i ≡ true
      → is_held l.instances i ≡ list_any (stays_of l.qos h i) (take l.kept-index l.samples);
  room : room_of l.instances ≡ room_of l.fn.instances;
  alive : alive_of l.instances ≡ alive_of l.fn.instances;
  happened : happened_of l.instances ≡ happened_of l.fn.instances;
}
