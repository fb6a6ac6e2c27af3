use Rattle.std.proofs.Common.{map}
use Rattle.rtps_announcements.specs.Written.{locator_text}
use Rattle.rtps_announcements.specs.WrittenParticipants.{own_rows}
use Rattle.rtps_announcements.proofs.PutLaws.{started, puts_more, puts_all, puts_last}
use Rattle.rtps_announcements.proofs.write.write_participant.Goals as goal

pub returns-clause-ok : goal.returns-clause-ok
returns-clause-ok c =
    let p = c.args.participant.now in
    let head = rw c.new-out.ensures.items at c.in_ok-extend_from_slice.ensures.items in
    puts_last (puts_more (0x0031, map locator_text p.default) (puts_more (0x0032, map locator_text p.metatraffic)
    (puts_all (own_rows c.args.domain p) (started head)
    c.in_ok-put_participant.ensures.ok) c.in_ok-put_locators.ensures.ok) c.in_ok-put_locators-2.ensures.ok)
    c.in_ok-put_value.ensures.ok
