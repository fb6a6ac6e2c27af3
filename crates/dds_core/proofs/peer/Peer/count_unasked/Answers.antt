use Rattle.std.proofs.Common.{List, subst}
use Rattle.dds_ends.specs.Kept.{WriterKept}
use Rattle.dds_core.specs.Kept.{PeerKept}
use Rattle.dds_core.specs.ObservingKept.{IsNamedWriter, NamesNoWriter}
use Rattle.dds_ends.specs.Readiness.{receiver_at}
use Rattle.dds_core.proofs.ToNobody.{nobody_asked, somebody_asked}
use Rattle.dds_core.proofs.peer.Peer.count_unasked.Goals as goal

pub returns-in-Some-clause-nobody : goal.returns-in-Some-clause-nobody
returns-in-Some-clause-nobody c =
    somebody_asked c.args.self.now (receiver_at c.args.receiver.now) c.args.body.now c.in-Some.field-0
    (subst (λ (k : PeerKept). IsNamedWriter k.prefix (receiver_at c.args.receiver.now) c.args.body.now k.writers
    c.in-Some.field-0) c.self.view_is
    (subst (λ (ws : List WriterKept). IsNamedWriter c.self.inside.prefix (receiver_at c.args.receiver.now)
    c.args.body.now ws c.in-Some.field-0) c.deref.ensures.value c.in-Some.ensures.found))

pub returns-in-None-clause-nobody : goal.returns-in-None-clause-nobody
returns-in-None-clause-nobody c =
    nobody_asked c.args.self.now (receiver_at c.args.receiver.now) c.args.body.now c.requires.here
    (subst (λ (k : PeerKept). NamesNoWriter k.prefix (receiver_at c.args.receiver.now) c.args.body.now k.writers)
    c.self.view_is
    (subst (λ (ws : List WriterKept). NamesNoWriter c.self.inside.prefix (receiver_at c.args.receiver.now)
    c.args.body.now ws) c.deref.ensures.value c.in-None.ensures.none))
