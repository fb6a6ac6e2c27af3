use Rattle.std.proofs.Common.{◌≡◌, Some, set, ap, subst}
use Rattle.rtps_wire.specs.declared.submessage.Submessage.TheVariants.{Data}
use Rattle.dds_ends.specs.Kept.{ReaderKept}
use Rattle.dds_core.specs.Kept.{PeerKept}
use Rattle.dds_ends.specs.Readiness.{receiver_at, IsAlike, change_ready}
use Rattle.dds_core.proofs.LastReader.{here_now, last_ready, last_stands}
use Rattle.dds_ends.proofs.Results.{ok_as}
use Rattle.dds_core.proofs.peer.Peer.make_change_ready.Goals as goal

pub returns-clause-ready : goal.returns-clause-ready
returns-clause-ready c =
    let first = c.requires.first in
    let is : c.index_mut.result.now ≡ first.reader =
    here_now c.args.self.now _ c.self.view_is c.args.first.index first.reader c.index_mut.result.now _ first.there
    c.index_mut.ensures.value in
    ok_as c.prepare_change.result
    (λ it prepared. last_ready c.args.self.now.prefix (receiver_at c.args.receiver.now) (Data c.args.body.now)
    c.args.self.now.readers (set c.self.inside.readers.items c.args.first.index c.prepare_change.new.self) c.args.first
    first.reader c.prepare_change.new.self (Some (change_ready it.row it.number it.change)) first c.requires.last first.there
    (ap (λ (q : PeerKept). set q.readers c.args.first.index c.prepare_change.new.self) c.self.view_is)
    (subst (λ (k : ReaderKept). IsAlike k c.prepare_change.new.self) is c.prepare_change.ensures.alike) prepared)
    c.prepare_change.ensures.ready

pub returns-clause-stands : goal.returns-clause-stands
returns-clause-stands c =
    let first = c.requires.first in
    last_stands c.args.self.now _ c.self.view_is c.args.first.index first.reader c.index_mut.result.now
    c.prepare_change.new.self first.there
    (here_now c.args.self.now _ c.self.view_is c.args.first.index first.reader c.index_mut.result.now _ first.there
    c.index_mut.ensures.value)
    c.prepare_change.ensures.alike
