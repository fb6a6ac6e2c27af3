use Rattle.std.proofs.Common.{[], ◌∷◌}
use Rattle.rtps_announcements.specs.Values.{guid_text}
use Rattle.rtps_announcements.specs.WrittenParticipants.{pid_of_guid}
use Rattle.rtps_announcements.proofs.PutLaws.{started, puts_more, puts_last}
use Rattle.rtps_announcements.proofs.write.write_guid.Goals as goal

pub returns-clause-ok : goal.returns-clause-ok
returns-clause-ok c =
    let head = rw c.new-out.ensures.items at c.in_ok-extend_from_slice.ensures.items in
    let put = rw c.pid_of_guid.ensures at c.in_ok-put_guid.ensures.ok in
    puts_last (puts_more (pid_of_guid c.args.guid.now, guid_text c.args.guid.now ∷ []) (started head) put)
    c.in_ok-put_value.ensures.ok
