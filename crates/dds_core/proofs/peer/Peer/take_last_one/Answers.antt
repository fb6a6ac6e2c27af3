use Rattle.std.proofs.Common.{◌<◌, length, ap, arith}
use Rattle.dds_core.specs.Kept.{PeerKept}
use Rattle.dds_core.proofs.LastReader.{last_told}
use Rattle.dds_ends.proofs.Lists.{element}
use Rattle.dds_core.proofs.peer.Peer.take_last_one.Goals as goal

pub returns-clause-takes : goal.returns-clause-takes
returns-clause-takes g c =
    last_told c.args.self.now c.take_at.new.self c.args.index (g.T.Telling.ready c.args.one) c.args.effects.now
    c.take_at.new.effects c.requires.last c.take_at.ensures.takes

pub returns-clause-prefix : goal.returns-clause-prefix
returns-clause-prefix g c =
    let within : c.args.index < length c.args.self.now.readers = omega (arith, c.requires.last) in
    let k = element c.args.self.now.readers c.args.index within in
    ap (λ (q : PeerKept). q.prefix) (c.take_at.ensures.takes k.0 k.1).new_is
