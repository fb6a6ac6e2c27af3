use Rattle.std.proofs.Common.{◌≡◌, true}
use Rattle.dds_participant.proofs.WatchingLaws.{lists_both, lists_none}
use Rattle.dds_participant.proofs.watcher.list_all.Goals as goal

pub loop-end-init : goal.loop-end-init
loop-end-init c = lists_none true c.args.lines.now.items

pub loop-end-preserved : goal.loop-end-preserved
loop-end-preserved c =
    lists_both true true c.args.lines.now.items c.loop-end.lines.items c.list_own.new.lines.items c.loop-end.invariant
    c.in_ok-list_own.ensures.front
