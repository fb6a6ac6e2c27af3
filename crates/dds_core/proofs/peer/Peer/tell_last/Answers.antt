use Rattle.dds_ends.specs.Readiness.{receiver_at}
use Rattle.dds_core.specs.Receiving.{only_last}
use Rattle.dds_core.proofs.Ready.{all_can}
use Rattle.dds_core.proofs.Turns.{tells_readers}
use Rattle.dds_core.proofs.peer.Peer.tell_last.Goals as goal

pub take_last-requires-clause-can : goal.take_last-requires-clause-can
take_last-requires-clause-can c =
    all_can c.args.self.now.prefix (receiver_at c.args.receiver.now) c.args.submessage.now
    c.make_last_ready.new.self.readers (only_last c.args.first.index c.in_ok-ready.ready) c.requires.bounded
    c.in_ok-ready.ensures.ready

pub returns-clause-takes : goal.returns-clause-takes
returns-clause-takes c =
    tells_readers c.args.self.now c.make_last_ready.new.self c.take_last.new.self
    (receiver_at c.args.receiver.now) c.args.submessage.now (only_last c.args.first.index c.in_ok-ready.ready)
    c.args.effects.now c.reserve.new.self c.take_last.new.effects c.in_ok-reserve.ensures.items
    c.in_ok-ready.ensures.stands c.in_ok-ready.ensures.prefix c.in_ok-ready.ensures.ready c.take_last.ensures.takes
    c.in_ok-ready.ensures.count
