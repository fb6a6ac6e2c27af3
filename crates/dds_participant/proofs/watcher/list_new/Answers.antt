use Rattle.std.proofs.Common.{subst, sym, Bool, ◌∙◌}
use Rattle.dds_participant.specs.Sight.{is_new}
use Rattle.dds_participant.specs.Watching.{Lists}
use Rattle.dds_participant.proofs.WatchingLaws.{lists_more, lists_none}
use Rattle.dds_participant.proofs.watcher.list_new.Goals as goal
use Rattle.dds_participant.proofs.watcher.list_new.Goals.{then-is_new+in_ok-list_far, else-is_new}

pub loop-one-preserved : goal.loop-one-preserved
loop-one-preserved c =
    let new = is_new c.args.seen.now c.one-item.result in
    lists_more (is_new c.args.seen.now) c.args.far.now c.loop-one.one-index c.one-item.result c.args.lines.now.items
    c.loop-one.lines.items c.if-is_new.lines.items c.loop-one-test.true c.one-item.is c.loop-one.invariant
    (elim c.if-is_new.branch [
      | then-is_new+in_ok-list_far w ↦ rw w.lines-is (subst (λ (b : Bool). Lists b c.loop-one.lines.items w.list_far.new.lines.items)
          (sym w.if-is_new.true ∙ c.is_new.ensures.new) w.in_ok-list_far.ensures.front)
      | else-is_new w ↦ rw w.lines-is (lists_none new c.loop-one.lines.items)
    ])
