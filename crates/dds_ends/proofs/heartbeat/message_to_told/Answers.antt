use Rattle.std.proofs.Common.{arith}
use Rattle.dds_ends.specs.Beating.{names_at}
use Rattle.dds_ends.proofs.Beating.{can_span}
use Rattle.dds_ends.proofs.ByName.{beats_writable}
use Rattle.dds_ends.proofs.FewAt.{few_at}
use Rattle.dds_ends.proofs.heartbeat.message_to_told.Goals as goal

pub message_for_all-requires : goal.message_for_all-requires
message_for_all-requires c = can_span c.args.writer.now c.args.beat.now.due c.requires.due

pub returns-clause-writable : goal.returns-clause-writable
returns-clause-writable c =
    beats_writable c.args.beat.now.prefix c.args.to.now.prefix (names_at c.args.readers.now c.args.to.now.peer)
    c.new-submessages.result
    c.push_in_place.new.self c.push_told.new.submessages c.as_slice-prefix.ensures.len c.as_slice-to.ensures.len
    (let few = few_at c.args.readers.now c.args.to.now.peer c.requires.few in omega (arith, few))
    c.new-submessages.ensures.none c.push_in_place.ensures.items c.in_ok-push_told.ensures.bare
