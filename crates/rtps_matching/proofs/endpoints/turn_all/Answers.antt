use Rattle.dds_base.proofs.Lists.{map-step}
use Rattle.rtps_matching.specs.Steps.{turned}
use Rattle.rtps_matching.proofs.endpoints.turn_all.Goals as goal

pub loop-other-preserved : goal.loop-other-preserved
loop-other-preserved c =
    map-step (turned c.args.prefix.now c.args.awake) c.args.far.now c.loop-other.far
    c.loop-other.other-index _ _ c.loop-other-test.true c.loop-other.auto.far c.loop-other.invariant
    c.turn.ensures
