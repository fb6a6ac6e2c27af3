use Rattle.std.proofs.Common.{List, get_or, ◌∙◌, ap, arith}
use Rattle.rtps_wire.specs.declared.submessage.Submessage.{Submessage}
use Rattle.rtps_wire.proofs.SpellingLaws.{front_short}
use Rattle.rtps_wire.proofs.write.written_len.Goals as goal

pub overflow_add-len : goal.overflow_add-len
overflow_add-len c =
    let items = c.as_slice-submessage-items.ensures.items in
    let short =
    front_short c.args.message.now c.loop-submessage.submessage-index c.submessage-item.result
    (rw items at c.loop-submessage-test.true)
    (c.submessage-item.is
    ∙ ap (λ (xs : List Submessage). get_or xs c.loop-submessage.submessage-index c.submessage-item.result) items)
    c.requires in
    let so_far = rw items at c.loop-submessage.invariant.len in
    omega (arith, short, so_far, c.spelling_len-len.ensures.len)
