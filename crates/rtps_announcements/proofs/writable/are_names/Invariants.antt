use Rattle.std.proofs.Common.{◌≡◌, take}
use Rattle.std.specs.List.{AllByRecursion}
use Rattle.rtps_announcements.specs.Values.{IsName}
use Rattle.rtps_announcements.proofs.writable.are_names.Given as goal

abbrev pub invariant-loop-name : goal.invariant-loop-name
invariant-loop-name l = record {
  each : AllByRecursion IsName (take l.name-index l.name-items);
  same : l.name-items ≡ l.partitions;
}
