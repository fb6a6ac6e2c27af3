use Rattle.std.proofs.Common.{List, sym, subst}
use Rattle.dds_protocol.specs.declared.event.Event.TheVariants as event
use Rattle.dds_protocol.specs.declared.event.Packet.{Packet}
use Rattle.dds_machine.specs.declared.reply.Reply.TheVariants.{Reported}
use Rattle.dds_core.specs.Kept.{PeerKept}
use Rattle.dds_core.specs.Receiving.{ReceivesPacket}
use Rattle.dds_core.specs.Stepping.{SoundSteps}
use Rattle.dds_core.proofs.Delivering.{delivers}
use Rattle.dds_core.proofs.peer.Peer.deliver.Goals as goal

pub returns-clause-step : goal.returns-clause-step
returns-clause-step c =
    let sent = c.receive-report.new.effects.sent in
    subst (λ (ps : List Packet). SoundSteps c.args.self.now (event.Deliver c.args.packet.now)
    (record { reply = Reported c.receive-report.result; packets = ps; unsent = sent.unsent })
    c.receive-report.new.self) (sym c.from_vec.ensures.elements)
    (delivers c.args.self.now c.receive-report.new.self c.args.packet.now c.receive-report.result sent
    (subst (λ (k : PeerKept). ReceivesPacket k c.args.packet.now c.receive-report.result c.receive-report.new.self sent)
    c.self.view_is c.receive-report.ensures.receives))
