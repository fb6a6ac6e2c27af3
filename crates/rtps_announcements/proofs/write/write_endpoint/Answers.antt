use Rattle.std.proofs.Common.{map}
use Rattle.rtps_announcements.specs.Written.{locator_text}
use Rattle.rtps_announcements.specs.WrittenEndpoints.{name_rows, policy_rows, partition_row, representation_row}
use Rattle.rtps_announcements.proofs.PutLaws.{started, puts_more, puts_all, puts_last}
use Rattle.rtps_announcements.proofs.write.write_endpoint.Goals as goal

pub returns-clause-ok : goal.returns-clause-ok
returns-clause-ok c =
    let e = c.args.endpoint.now in
    let head = rw c.new-out.ensures.items at c.in_ok-extend_from_slice.ensures.items in
    puts_last (puts_more (0x002f, map locator_text e.locators) (puts_more (representation_row e.representations)
    (puts_more (partition_row e.partitions) (puts_all (policy_rows c.args.kind e.policies) (puts_all (name_rows e) (started head)
    c.in_ok-put_names.ensures.ok) c.in_ok-put_policies.ensures.ok)
    c.in_ok-put_partitions.ensures.ok) c.in_ok-put_representations.ensures.ok) c.in_ok-put_locators.ensures.ok)
    c.in_ok-put_value.ensures.ok
