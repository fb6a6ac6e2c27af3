use Rattle.std.proofs.Common.{◌≡◌, List, Bool, ◌&&◌, get_or, sym, ap, ◌∙◌, subst}
use Rattle.std.proofs.lemmas.List.Folds.{list_any_more}
use Rattle.dds_base.specs.Happening.{same_key}
use Rattle.dds_instances.specs.Table.{Stands, Table, alive_of, happened_of, is_held, room_of}
use Rattle.dds_cache.specs.declared.kept.Kept.{Kept}
use Rattle.dds_cache.specs.Sweeping.{stays_of}
use Rattle.dds_cache.proofs.HoldLaws.{held-more, held-same}
use Rattle.dds_cache.proofs.ending.hold_present.Goals as goal
use Rattle.dds_cache.proofs.ending.hold_present.Goals.{then-is_still_live, else-is_still_live}

pub loop-kept-preserved : goal.loop-kept-preserved
loop-kept-preserved c =
    let ks : List Kept = c.args.samples.now in
    let k : Kept = c.kept-item.result in
    record {
      same = λ q h stands. elim c.if-is_still_live.branch [
        | then-is_still_live w ↦ subst (λ (t : Table). Stands q t h) (sym w.instances-is)
            (w.hold.ensures.same q h (c.loop-kept.invariant.same q h stands))
        | else-is_still_live w ↦ subst (λ (t : Table). Stands q t h) (sym w.instances-is)
            (c.loop-kept.invariant.same q h stands)
      ];
      held = λ h i stands known.
          let now = c.loop-kept.invariant.same c.args.qos.now h stands in
          let here : stays_of c.args.qos.now h i (get_or ks c.loop-kept.kept-index k)
          ≡ (same_key k.sample.key i && c.is_still_live.result) =
          ap (λ (x : Kept). stays_of c.args.qos.now h i x) (sym c.kept-item.is)
          ∙ ap (λ (b : Bool). same_key k.sample.key i && b) (sym (c.is_still_live.ensures h now)) in
          let before = c.loop-kept.invariant.held h i stands known in
          let more = list_any_more (stays_of c.args.qos.now h i) ks c.loop-kept.kept-index k c.loop-kept-test.true in
          elim c.if-is_still_live.branch [
            | then-is_still_live w ↦ ap (λ (t : Table). is_held t i) w.instances-is
                ∙ (w.hold.ensures.held c.args.qos.now h i now known
                ∙ (held-more (same_key k.sample.key i) c.is_still_live.result _ _ _ w.if-is_still_live.true before here
                ∙ sym more))
            | else-is_still_live w ↦ ap (λ (t : Table). is_held t i) w.instances-is
                ∙ (before ∙ (held-same (same_key k.sample.key i) c.is_still_live.result _ _ w.if-is_still_live.false here
                ∙ sym more))
          ];
      room = elim c.if-is_still_live.branch [
        | then-is_still_live w ↦ ap room_of w.instances-is ∙ (w.hold.ensures.room ∙ c.loop-kept.invariant.room)
        | else-is_still_live w ↦ ap room_of w.instances-is ∙ c.loop-kept.invariant.room
      ];
      alive = elim c.if-is_still_live.branch [
        | then-is_still_live w ↦ ap alive_of w.instances-is ∙ (w.hold.ensures.alive ∙ c.loop-kept.invariant.alive)
        | else-is_still_live w ↦ ap alive_of w.instances-is ∙ c.loop-kept.invariant.alive
      ];
      happened = elim c.if-is_still_live.branch [
        | then-is_still_live w ↦
            ap happened_of w.instances-is ∙ (w.hold.ensures.happened ∙ c.loop-kept.invariant.happened)
        | else-is_still_live w ↦ ap happened_of w.instances-is ∙ c.loop-kept.invariant.happened
      ];
    }
