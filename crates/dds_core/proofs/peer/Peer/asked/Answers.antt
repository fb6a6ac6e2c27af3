use Rattle.std.proofs.Common.{List, subst}
use Rattle.std.specs.Prelude.{IfNone, IfSome}
use Rattle.dds_core.specs.Answering.{AsksNone, IsAskedWriter}
use Rattle.dds_ends.specs.Kept.{WriterKept}
use Rattle.dds_core.specs.Kept.{PeerKept}
use Rattle.dds_ends.specs.Readiness.{receiver_at}
use Rattle.dds_core.proofs.peer.Peer.asked.Goals as goal

pub returns-clause-asked : goal.returns-clause-asked
returns-clause-asked c =
    subst (λ (k : PeerKept). IfSome c.asked_writer.result
    (IsAskedWriter k.prefix (receiver_at c.args.receiver.now) c.args.body.now k.writers)) c.self.view_is
    (subst (λ (ws : List WriterKept). IfSome c.asked_writer.result
    (IsAskedWriter c.self.inside.prefix (receiver_at c.args.receiver.now) c.args.body.now ws)) c.deref.ensures.value
    c.asked_writer.ensures.asked)

pub returns-clause-none : goal.returns-clause-none
returns-clause-none c =
    subst (λ (k : PeerKept). IfNone c.asked_writer.result
    (AsksNone k.prefix (receiver_at c.args.receiver.now) c.args.body.now k.writers)) c.self.view_is
    (subst (λ (ws : List WriterKept). IfNone c.asked_writer.result
    (AsksNone c.self.inside.prefix (receiver_at c.args.receiver.now) c.args.body.now ws)) c.deref.ensures.value
    c.asked_writer.ensures.none)
