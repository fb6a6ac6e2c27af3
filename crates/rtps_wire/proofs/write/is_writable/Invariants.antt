use Rattle.std.proofs.Common.{◌≡◌, ◌+◌, ◌≤◌, take, length}
use Rattle.std.specs.List.{flat_map, AllByRecursion}
use Rattle.rtps_wire.specs.Submessages.{spelling_of_submessage, IsSpellable}
use Rattle.rtps_wire.proofs.write.is_writable.Given as goal

abbrev pub invariant-loop-submessage : goal.invariant-loop-submessage
invariant-loop-submessage l = record {
  len : l.len ≡ 20 + length (flat_map spelling_of_submessage (take l.submessage-index l.submessage-items));
  short : l.len ≤ 65507;
  each : AllByRecursion IsSpellable (take l.submessage-index l.submessage-items);
  same : l.submessage-items ≡ l.message.submessages;
}
