use Rattle.std.proofs.Common.{◌≡◌, ◌++◌, take}
use Rattle.std.specs.Int.{w16}
use Rattle.std.specs.List.{flat_map}
use Rattle.dds_base.specs.Fields.{number}
use Rattle.dds_base.specs.declared.endianness.Endianness.TheVariants.{Little}
use Rattle.rtps_announcements.proofs.put.put_ids.Given as goal

abbrev pub invariant-loop-id : goal.invariant-loop-id
invariant-loop-id l = record {
  so_far : l.out.items ≡ l.initial.out.items ++ flat_map (number Little w16) (take l.id-index l.id-items);
  same : l.id-items ≡ l.representations;
}
