use Rattle.dds_base.proofs.Lists.{map-step}
use Rattle.rtps_discovery.specs.Rows.{heard_row}
use Rattle.rtps_discovery.proofs.table.hear.Goals as goal

pub loop-row-preserved : goal.loop-row-preserved
loop-row-preserved c =
    map-step (heard_row c.args.prefix.now c.args.address.now c.args.now) c.args.rows.now c.loop-row.rows
    c.loop-row.row-index _ _ c.loop-row-test.true c.loop-row.auto.rows c.loop-row.invariant
    c.hear.ensures
