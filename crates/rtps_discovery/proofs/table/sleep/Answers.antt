use Rattle.dds_base.proofs.Lists.{map-step}
use Rattle.rtps_discovery.specs.Rows.{slept_row}
use Rattle.rtps_discovery.proofs.table.sleep.Goals as goal

pub loop-row-preserved : goal.loop-row-preserved
loop-row-preserved c =
    map-step (slept_row c.args.now) c.args.rows.now c.loop-row.rows
    c.loop-row.row-index _ _ c.loop-row-test.true c.loop-row.auto.rows c.loop-row.invariant
    c.sleep.ensures
