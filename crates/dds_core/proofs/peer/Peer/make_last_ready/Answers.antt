use Rattle.std.proofs.Common.{◌≡◌, set, ap, subst}
use Rattle.dds_ends.specs.Kept.{ReaderKept}
use Rattle.dds_core.specs.Kept.{PeerKept}
use Rattle.dds_ends.specs.Readiness.{receiver_at, IsAlike}
use Rattle.dds_core.proofs.LastReader.{here_now, last_ready, last_stands}
use Rattle.dds_ends.proofs.Results.{ok_as}
use Rattle.dds_core.proofs.peer.Peer.make_last_ready.Goals as goal

pub returns-clause-ready : goal.returns-clause-ready
returns-clause-ready c =
    let first = c.requires.first in
    let is : c.index_mut.result.now ≡ first.reader =
    here_now c.args.self.now _ c.self.view_is c.args.first.index first.reader c.index_mut.result.now _ first.there
    c.index_mut.ensures.value in
    ok_as c.prepare.result
    (λ one prepared. last_ready c.args.self.now.prefix (receiver_at c.args.receiver.now) c.args.submessage.now
    c.args.self.now.readers (set c.self.inside.readers.items c.args.first.index c.prepare.new.self) c.args.first
    first.reader c.prepare.new.self one first c.requires.last first.there
    (ap (λ (q : PeerKept). set q.readers c.args.first.index c.prepare.new.self) c.self.view_is)
    (subst (λ (k : ReaderKept). IsAlike k c.prepare.new.self) is c.prepare.ensures.alike) prepared)
    c.prepare.ensures.ready

pub returns-clause-stands : goal.returns-clause-stands
returns-clause-stands c =
    let first = c.requires.first in
    last_stands c.args.self.now _ c.self.view_is c.args.first.index first.reader c.index_mut.result.now
    c.prepare.new.self first.there
    (here_now c.args.self.now _ c.self.view_is c.args.first.index first.reader c.index_mut.result.now _ first.there
    c.index_mut.ensures.value)
    c.prepare.ensures.alike
