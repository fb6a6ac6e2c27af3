use Rattle.std.proofs.Common.{List, subst}
use Rattle.std.specs.Prelude.{IfNone, IfSome}
use Rattle.dds_ends.specs.Kept.{ReaderKept}
use Rattle.dds_core.specs.Kept.{PeerKept}
use Rattle.dds_ends.specs.Readiness.{receiver_at}
use Rattle.dds_core.specs.Readiness.{IsFirstNamed, NamesNone}
use Rattle.dds_core.proofs.Turns.{needs_if}
use Rattle.dds_core.proofs.peer.Peer.named.Goals as goal

pub returns-clause-first : goal.returns-clause-first
returns-clause-first c =
    subst (λ (k : PeerKept). IfSome c.named_reader.result
    (IsFirstNamed k.prefix (receiver_at c.args.receiver.now) c.args.submessage.now k.readers)) c.self.view_is
    (subst (λ (rs : List ReaderKept). IfSome c.named_reader.result
    (IsFirstNamed c.self.inside.prefix (receiver_at c.args.receiver.now) c.args.submessage.now rs))
    c.deref.ensures.value c.named_reader.ensures.found)

pub returns-clause-needs : goal.returns-clause-needs
returns-clause-needs c =
    needs_if c.named_reader.result c.args.self.now (receiver_at c.args.receiver.now) c.args.submessage.now
    (returns-clause-first c)

pub returns-clause-none : goal.returns-clause-none
returns-clause-none c =
    subst (λ (k : PeerKept). IfNone c.named_reader.result
    (NamesNone k.prefix (receiver_at c.args.receiver.now) c.args.submessage.now k.readers)) c.self.view_is
    (subst (λ (rs : List ReaderKept). IfNone c.named_reader.result
    (NamesNone c.self.inside.prefix (receiver_at c.args.receiver.now) c.args.submessage.now rs)) c.deref.ensures.value
    c.named_reader.ensures.none)
