use Rattle.std.proofs.Common.{List, ◌+◌, ◌<◌, length, get_or, take, ◌∙◌, ap, arith}
use Rattle.std.specs.List.{flat_map}
use Rattle.rtps_wire.specs.declared.submessage.Submessage.{Submessage}
use Rattle.rtps_wire.specs.Submessages.{spelling_of_submessage}
use Rattle.rtps_wire.proofs.SpellingLaws.{too_long}
use Rattle.rtps_wire.proofs.write.is_writable.Goals as goal

pub returns-then-len-gt-MAX_MESSAGE : goal.returns-then-len-gt-MAX_MESSAGE
returns-then-len-gt-MAX_MESSAGE c =
    let past : 65507 < 20 + length
    (flat_map spelling_of_submessage
    (take c.loop-submessage.submessage-index c.as_slice-submessage-items.result.now)) + length
    (spelling_of_submessage c.submessage-item.result) =
    omega (arith, c.loop-submessage.invariant.len, c.spelling_len-len.ensures.len, c.if-len-gt-MAX_MESSAGE.true) in
    record {
      writable = (
        λ h. absurd cc,
        λ w. absurd (too_long c.args.message.now c.loop-submessage.submessage-index c.submessage-item.result
            (rw c.as_slice-submessage-items.ensures.items at c.loop-submessage-test.true)
            (c.submessage-item.is
            ∙ ap (λ (xs : List Submessage). get_or xs c.loop-submessage.submessage-index c.submessage-item.result)
            c.as_slice-submessage-items.ensures.items)
            (rw c.as_slice-submessage-items.ensures.items at past) w),
      );
    }
