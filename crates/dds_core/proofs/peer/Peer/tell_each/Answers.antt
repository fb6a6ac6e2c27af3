use Rattle.dds_ends.specs.Readiness.{receiver_at}
use Rattle.dds_core.proofs.Ready.{all_can}
use Rattle.dds_core.proofs.Turns.{tells_readers}
use Rattle.dds_core.proofs.peer.Peer.tell_each.Goals as goal

pub take_all-requires-clause-can : goal.take_all-requires-clause-can
take_all-requires-clause-can c =
    all_can c.args.self.now.prefix (receiver_at c.args.receiver.now) c.args.submessage.now c.make_ready.new.self.readers
    c.make_ready.new.ready.items c.requires.bounded c.in_ok-make_ready.ensures.ready

pub take_all-requires-clause-count : goal.take_all-requires-clause-count
take_all-requires-clause-count c = c.in_ok-make_ready.ensures.ready.count

pub returns-clause-takes : goal.returns-clause-takes
returns-clause-takes c =
    tells_readers c.args.self.now c.make_ready.new.self c.take_all.new.self
    (receiver_at c.args.receiver.now) c.args.submessage.now c.make_ready.new.ready.items c.args.effects.now
    c.reserve.new.self c.take_all.new.effects c.in_ok-reserve.ensures.items c.in_ok-make_ready.ensures.stands
    c.in_ok-make_ready.ensures.prefix c.in_ok-make_ready.ensures.ready c.take_all.ensures.takes
    c.in_ok-make_ready.ensures.count
