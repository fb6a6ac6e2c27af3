use Rattle.dds_domain.specs.Sharings.{sent_none}
use Rattle.dds_domain.proofs.Laws.{sends_next}
use Rattle.dds_domain.proofs.sharing.Sharing.send_all.Goals as goal

pub loop-packet-init : goal.loop-packet-init
loop-packet-init c = sent_none c.args.self.now.exchange c.args.rows.now c.args.turn.now

pub loop-packet-preserved : goal.loop-packet-preserved
loop-packet-preserved c =
    sends_next c.args.self.now.exchange c.args.rows.now c.args.packets.now c.loop-packet.packet-index c.packet-item.result
    c.args.turn.now c.loop-packet.turn c.send.new.turn c.loop-packet-test.true c.packet-item.is c.loop-packet.invariant
    c.send.ensures
