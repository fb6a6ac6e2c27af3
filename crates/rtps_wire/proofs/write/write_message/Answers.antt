use Rattle.std.proofs.Common.{◌∙◌, ap, get_or, List}
use Rattle.rtps_wire.specs.declared.submessage.Submessage.{Submessage}
use Rattle.rtps_wire.proofs.SpellingLaws.{spellable_at}
use Rattle.rtps_wire.proofs.write.write_message.Goals as goal

pub put_submessage-requires : goal.put_submessage-requires
put_submessage-requires c =
    spellable_at c.args.message.now.submessages c.loop-submessage.submessage-index c.submessage-item.result
    c.requires.writable.submessages
    (rw c.as_slice-submessage-items.ensures.items at c.loop-submessage-test.true)
    (c.submessage-item.is
    ∙ ap (λ (xs : List Submessage). get_or xs c.loop-submessage.submessage-index c.submessage-item.result)
    c.as_slice-submessage-items.ensures.items)
