use Rattle.std.proofs.Common.{List, subst}
use Rattle.dds_ends.specs.Kept.{ReaderKept}
use Rattle.dds_core.specs.Kept.{PeerKept}
use Rattle.dds_core.specs.Observing.{Sums}
use Rattle.dds_core.specs.ObservingKept.{CountsOld}
use Rattle.dds_ends.specs.Readiness.{receiver_at}
use Rattle.dds_core.proofs.Counted.{old_to_readers}
use Rattle.dds_core.proofs.peer.Peer.count_old.Goals as goal

pub returns-in-Some-clause-old : goal.returns-in-Some-clause-old
returns-in-Some-clause-old c =
    old_to_readers c.args.self.now c.args.of (receiver_at c.args.receiver.now) c.args.submessage.now c.count_old.result
    (subst (λ (k : PeerKept). Sums (CountsOld k.prefix c.args.of (receiver_at c.args.receiver.now) c.args.submessage.now) k.readers
    c.count_old.result) c.self.view_is
    (subst (λ (rs : List ReaderKept). Sums (CountsOld c.self.inside.prefix c.args.of (receiver_at c.args.receiver.now)
    c.args.submessage.now) rs c.count_old.result) c.deref.ensures.value c.count_old.ensures.sums))
