use Rattle.dds_domain.specs.Sharings.{delivered_none}
use Rattle.dds_domain.proofs.Laws.{delivers_next}
use Rattle.dds_domain.proofs.sharing.Sharing.deliver_all.Goals as goal

pub loop-message-init : goal.loop-message-init
loop-message-init c = delivered_none c.args.rows.now c.args.self.now c.args.turn.now

pub loop-message-preserved : goal.loop-message-preserved
loop-message-preserved c =
    delivers_next c.args.rows.now c.args.messages.now c.loop-message.message-index c.message-item.result c.args.self.now
    c.args.turn.now c.loop-message.self c.loop-message.turn c.deliver.new.self c.deliver.new.turn c.loop-message-test.true
    c.message-item.is c.loop-message.invariant (rw c.as_slice.ensures.octets at c.deliver.ensures)
