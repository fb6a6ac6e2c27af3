use Rattle.std.proofs.Common.{[], ◌∷◌}
use Rattle.std.specs.Int.{w32}
use Rattle.dds_base.specs.Fields.{number}
use Rattle.dds_base.specs.declared.endianness.Endianness.TheVariants.{Little}
use Rattle.rtps_announcements.specs.Values.{guid_text, participant_guid, duration_text}
use Rattle.rtps_announcements.specs.WrittenParticipants.{vendor_row}
use Rattle.rtps_announcements.proofs.PutLaws.{puts_none, puts_more}
use Rattle.rtps_announcements.proofs.write.put_participant.Goals as goal

pub returns-clause-ok : goal.returns-clause-ok
returns-clause-ok c =
    let p = c.args.participant.now in
    (puts_more (0x0002, duration_text Little p.lease ∷ []) (puts_more (0x0058, number Little w32 p.builtin_endpoints ∷ []) (puts_more (0x000f, number Little w32 c.args.domain ∷ []) (puts_more (vendor_row p.vendor) (puts_more (0x0015, (2 ∷ 5 ∷ 0 ∷ 0 ∷ []) ∷ []) (puts_more (0x0050, guid_text (participant_guid p.prefix) ∷ []) (puts_none c.args.out.now.items)
    c.in_ok-put_guid.ensures.ok)
    c.in_ok-put_value.ensures.ok)
    c.in_ok-put_vendor.ensures.ok)
    c.in_ok-put_number.ensures.ok)
    c.in_ok-put_number-2.ensures.ok)
    c.in_ok-put_time.ensures.ok).is
