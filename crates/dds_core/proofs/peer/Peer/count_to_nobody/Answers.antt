use Rattle.std.proofs.Common.{subst, sym}
use Rattle.rtps_wire.specs.declared.submessage.Submessage.{Submessage}
use Rattle.dds_core.specs.ObservingKept.{ToNobodyOf}
use Rattle.dds_ends.specs.Readiness.{receiver_at}
use Rattle.dds_core.proofs.peer.Peer.count_to_nobody.Goals as goal

pub returns-in-AckNack-clause-nobody : goal.returns-in-AckNack-clause-nobody
returns-in-AckNack-clause-nobody c =
    subst (λ (s : Submessage). ToNobodyOf c.args.self.now (receiver_at c.args.receiver.now) s c.count_unasked.result)
    (sym c.in-AckNack.is) c.count_unasked.ensures.nobody
