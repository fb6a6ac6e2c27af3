use Rattle.dds_participant.proofs.WatchingLaws.{presents_next}
use Rattle.dds_participant.proofs.watcher.print_presences.Goals as goal

pub loop-one-preserved : goal.loop-one-preserved
loop-one-preserved c =
    presents_next c.args.told.now c.loop-one.one-index _ c.args.rows.now c.args.lines.now.items c.loop-one.lines.items
    c.print_one.new.lines.items c.loop-one-test.true c.loop-one.invariant c.in_ok-print_one.ensures.printed
