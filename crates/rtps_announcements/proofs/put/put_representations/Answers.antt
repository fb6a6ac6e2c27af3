use Rattle.std.proofs.Common.{}
use Rattle.rtps_announcements.proofs.PutLaws.{puts_representations}
use Rattle.rtps_announcements.proofs.put.put_representations.Goals as goal

pub returns-clause-ok : goal.returns-clause-ok
returns-clause-ok c =
    let a = c.in_ok-put_head.ensures.ok in
    let b = c.in_ok-extend_from_slice.ensures.items in
    let d = c.in_ok-put_ids.ensures.ok in
    let e = c.in_ok-put_zeros.ensures.ok in
    puts_representations c.args.out.now.items _ _ _ _ c.args.representations.now
    (rw c.as_slice-count.ensures.items at a) (rw (c.to_le_bytes.ensures, c.as_slice-count.ensures.items) at b) d (rw c.as_slice-count.ensures.items at e)
