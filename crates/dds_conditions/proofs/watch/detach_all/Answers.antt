use Rattle.dds_base.proofs.Lists.{map-step}
use Rattle.dds_conditions.specs.Watched.{without}
use Rattle.dds_conditions.proofs.watch.detach_all.Goals as goal

pub loop-index-preserved : goal.loop-index-preserved
loop-index-preserved c =
    map-step (without c.args.condition) c.args.wait_sets.now c.loop-index.wait_sets c.loop-index.index
    c.index-wait_sets-index.result c.detach_from.new.waiting
    c.loop-index-test.true c.loop-index.auto.wait_sets c.loop-index.invariant c.detach_from.ensures
