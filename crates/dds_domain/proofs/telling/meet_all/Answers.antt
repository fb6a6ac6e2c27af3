use Rattle.dds_domain.specs.Sharings.{met_none}
use Rattle.dds_domain.proofs.Laws.{meetings_next}
use Rattle.dds_domain.proofs.telling.meet_all.Goals as goal

pub loop-count-init : goal.loop-count-init
loop-count-init c = met_none c.args.exchange.now c.args.turn.now

pub loop-count-preserved : goal.loop-count-preserved
loop-count-preserved c =
    meetings_next c.loop-count._count c.args.exchange.now c.args.turn.now c.loop-count.exchange c.loop-count.turn
    c.meet_one.new.exchange c.meet_one.new.turn c.loop-count.invariant c.in_ok-meet_one.ensures.met
