use Rattle.dds_domain.specs.Participants.{none}
use Rattle.dds_domain.proofs.Laws.{runs_next}
use Rattle.dds_domain.proofs.participant.Participant.settle.Goals as goal

pub loop-count-init : goal.loop-count-init
loop-count-init c = none c.args.self.now c.args.turn.now

pub loop-count-preserved : goal.loop-count-preserved
loop-count-preserved c =
    runs_next c.loop-count._count c.args.self.now c.args.turn.now c.loop-count.self c.loop-count.turn c.settle_one.new.self
    c.settle_one.new.turn c.loop-count.invariant c.if-not-settle_one.ensures
