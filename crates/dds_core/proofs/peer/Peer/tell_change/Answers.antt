use Rattle.std.proofs.Common.{Some}
use Rattle.rtps_wire.specs.declared.submessage.Submessage.TheVariants.{Data}
use Rattle.dds_ends.specs.Readiness.{receiver_at, change_ready}
use Rattle.dds_core.specs.Receiving.{only_last}
use Rattle.dds_core.proofs.LastReader.{last_there}
use Rattle.dds_core.proofs.Ready.{all_can}
use Rattle.dds_core.proofs.Turns.{tells_readers}
use Rattle.dds_core.proofs.peer.Peer.tell_change.Goals as goal

pub take_last_one-requires-clause-can : goal.take_last_one-requires-clause-can
take_last_one-requires-clause-can c =
    let it = c.in_ok-ready.ready in
    let one = change_ready it.row it.number it.change in
    all_can c.args.self.now.prefix (receiver_at c.args.receiver.now) (Data c.args.body.now)
    c.make_change_ready.new.self.readers (only_last c.args.first.index (Some one)) c.requires.bounded
    c.in_ok-ready.ensures.ready c.args.first.index one (last_there c.args.first.index (Some one))

pub returns-clause-takes : goal.returns-clause-takes
returns-clause-takes c =
    let it = c.in_ok-ready.ready in
    tells_readers c.args.self.now c.make_change_ready.new.self c.take_last_one.new.self
    (receiver_at c.args.receiver.now) (Data c.args.body.now)
    (only_last c.args.first.index (Some (change_ready it.row it.number it.change)))
    c.args.effects.now c.reserve.new.self c.take_last_one.new.effects c.in_ok-reserve.ensures.items
    c.in_ok-ready.ensures.stands c.in_ok-ready.ensures.prefix c.in_ok-ready.ensures.ready
    c.take_last_one.ensures.takes c.in_ok-ready.ensures.count
