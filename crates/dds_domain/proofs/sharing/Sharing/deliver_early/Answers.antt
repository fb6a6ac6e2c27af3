use Rattle.dds_domain.specs.Sharings.{came_none}
use Rattle.dds_domain.proofs.Laws.{comes_next}
use Rattle.dds_domain.proofs.sharing.Sharing.deliver_early.Goals as goal

pub loop-count-init : goal.loop-count-init
loop-count-init c = came_none c.args.rows.now c.args.self.now c.args.turn.now

pub loop-count-preserved : goal.loop-count-preserved
loop-count-preserved c =
    comes_next c.loop-count._count c.args.rows.now c.in-Some.bytes c.args.self.now c.args.turn.now c.loop-count.self c.loop-count.turn
    c.next_early.new.self c.deliver.new.self c.deliver.new.turn c.loop-count.invariant c.in-Some.ensures
    (rw c.as_slice.ensures.octets at c.deliver.ensures)
