use Rattle.std.proofs.Common.{◌≡◌, ◌++◌, take}
use Rattle.std.specs.List.{flat_map}
use Rattle.rtps_announcements.specs.Written.{padded_name_text}
use Rattle.rtps_announcements.proofs.put.put_names.Given as goal

abbrev pub invariant-loop-name : goal.invariant-loop-name
invariant-loop-name l = record {
  so_far : l.out.items ≡ l.initial.out.items ++ flat_map padded_name_text (take l.name-index l.name-items);
  same : l.name-items ≡ l.partitions;
}
