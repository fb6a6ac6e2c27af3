use Rattle.std.proofs.Common.{◌≡◌, ◌+◌, ◌-◌, Bool, not, sym, ap, ◌∙◌, List, ℕ, length}
use Rattle.std.specs.Prelude.{if◌then◌else◌}
use Rattle.dds_base.specs.declared.happening.Arrival.{Arrival}
use Rattle.dds_base.specs.declared.key.Key.{Key}
use Rattle.dds_base.specs.declared.qos.ReaderQos.{ReaderQos}
use Rattle.dds_base.specs.Instance.{is_known, known_instances}
use Rattle.dds_base.specs.Presence.{is_within}
use Rattle.dds_instances.specs.Track.{one_if}
use Rattle.dds_cache.proofs.EndLaws.{instances-after}
use Rattle.dds_cache.proofs.KeptLaws.{known-told}
use Rattle.dds_cache.proofs.RoomLaws.{instances-spare}
use Rattle.dds_cache.proofs.room.instances_fit.Goals as goal
use Rattle.dds_cache.proofs.room.instances_fit.Goals.{then-is_none, else-is_none}

pub returns-then-keeps_to : goal.returns-then-keeps_to
returns-then-keeps_to c = λ h awaits.
    sym (instances-spare c.args.qos.now c.args.arrival.now h c.len.result
    (c.len.ensures.len c.args.qos.now h awaits.holds.instances) (sym c.keeps_to.ensures ∙ c.if-keeps_to.true))

pub returns : goal.returns
returns c = λ h awaits.
    let holds = awaits.holds in
    let q : ReaderQos = c.args.qos.now in
    let a : Arrival = c.args.arrival.now in
    let ks : List Key = known_instances q h in
    let told : is_known q h a.change.key ≡ not c.is_none.result =
    known-told q h a.change.key c.known.result (c.known.ensures.key q h holds.instances)
    (c.known.ensures.known q h holds.instances) ∙ c.is_none.ensures in
    let others : c.if-is_none.others ≡ (if is_known q h a.change.key then length ks - 1 else length ks) =
    elim c.if-is_none.branch [
      | then-is_none w ↦
          w.others-is
          ∙ (w.len-others.ensures.len q h holds.instances
          ∙ sym (ap (λ (b : Bool). if b then length ks - 1 else length ks)
          (told ∙ ap (λ (b : Bool). not b) w.if-is_none.true)))
      | else-is_none w ↦
          w.others-is
          ∙ (w.saturating_sub-others.ensures
          ∙ (ap (λ (n : ℕ). n - 1) (w.len-else-is_none.ensures.len q h holds.instances)
          ∙ sym (ap (λ (b : Bool). if b then length ks - 1 else length ks)
          (told ∙ ap (λ (b : Bool). not b) w.if-is_none.false))))
    ] in
    c.keeps_to-2.ensures
    ∙ (ap (λ (b : Bool). is_within q.max_instances (c.if-is_none.others + one_if (not b)))
    (c.is_end-stays.ensures h holds awaits.fresh)
    ∙ ap (λ (n : ℕ). is_within q.max_instances n) (sym (instances-after q a h c.if-is_none.others awaits.accepted others)))
