use Rattle.std.proofs.Common.{◌≡◌, [], ◌∷◌, ◌++◌, take}
use Rattle.std.specs.List.{flat_map}
use Rattle.rtps_wire.specs.Submessages.{spelling_of_submessage}
use Rattle.rtps_wire.specs.Messages.{header_text}
use Rattle.rtps_wire.proofs.write.write_message.Given as goal

abbrev pub invariant-loop-submessage : goal.invariant-loop-submessage
invariant-loop-submessage l = record {
  so_far : l.out.items ≡ header_text 5 (0 ∷ 0 ∷ []) l.message.prefix
      ++ flat_map spelling_of_submessage (take l.submessage-index l.submessage-items);
  same : l.submessage-items ≡ l.message.submessages;
}
