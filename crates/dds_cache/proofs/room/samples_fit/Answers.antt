use Rattle.std.proofs.Common.{◌≡◌, ℕ, ◌+◌, List, ◌∷◌, Bool, ◌&&◌, ◌||◌, sym, ap, ◌∙◌}
use Rattle.std.specs.List.{count_by}
use Rattle.dds_base.specs.declared.happening.Happening.{Happening}
use Rattle.dds_base.specs.declared.happening.Happening.TheVariants.{Came}
use Rattle.dds_base.specs.declared.qos.ReaderQos.{ReaderQos}
use Rattle.dds_base.specs.Presence.{is_within, marks}
use Rattle.dds_base.specs.Life.{ends_with_write, keeps}
use Rattle.dds_instances.specs.Track.{one_if}
use Rattle.dds_cache.specs.Room.{is_present_write}
use Rattle.dds_cache.proofs.RoomLaws.{leaves_write, leaves-write, writes-after}
use Rattle.dds_cache.proofs.room.samples_fit.Goals as goal
use Rattle.dds_cache.proofs.room.samples_fit.Goals.{then-is_write+then-is_kept_after, then-is_write+else-is_kept_after, else-is_write}

pub returns : goal.returns
returns c = λ h awaits.
    let holds = awaits.holds in
    let q : ReaderQos = c.args.qos.now in
    let g : List Happening = Came c.args.arrival.now ∷ h in
    let written : c.is_accepted_write-is_write.result ≡ ends_with_write q c.args.arrival.now.change.key g =
    c.is_accepted_write-is_write.ensures h holds.instances in
    let marked : c.would_mark-is_marked.result ≡ marks q c.args.arrival.now.change.key h (Came c.args.arrival.now) =
    c.would_mark-is_marked.ensures.marks h holds.instances in
    let count : c.writes_left-count.result ≡ count_by (is_present_write q g) c.args.samples.now =
    c.writes_left-count.ensures h (record { stands = holds.instances; written = written; marked = marked }) holds in
    let left : c.if-is_write.is_left
    ≡ (c.is_accepted_write-is_write.result && (keeps q.history 0 || c.would_mark-is_marked.result)) =
    elim c.if-is_write.branch [
      | then-is_write+then-is_kept_after w ↦
          w.is_left-is ∙ (w.if-is_kept_after.true
          ∙ sym (ap (λ (b : Bool). b && (keeps q.history 0 || c.would_mark-is_marked.result)) w.if-is_write.true
          ∙ ap (λ (b : Bool). b || c.would_mark-is_marked.result)
          (sym w.is_kept_after.ensures ∙ w.if-is_kept_after.true)))
      | then-is_write+else-is_kept_after w ↦
          w.is_left-is
          ∙ sym (ap (λ (b : Bool). b && (keeps q.history 0 || c.would_mark-is_marked.result)) w.if-is_write.true
          ∙ ap (λ (b : Bool). b || c.would_mark-is_marked.result)
          (sym w.is_kept_after.ensures ∙ w.if-is_kept_after.false))
      | else-is_write w ↦
          w.is_left-is
          ∙ (w.if-is_write.false
          ∙ sym (ap (λ (b : Bool). b && (keeps q.history 0 || c.would_mark-is_marked.result)) w.if-is_write.false))
    ] in
    let leaves : c.if-is_write.is_left ≡ leaves_write q c.args.arrival.now h =
    left ∙ leaves-write q c.args.arrival.now h c.is_accepted_write-is_write.result c.would_mark-is_marked.result
    written marked awaits.fresh in
    c.keeps_to.ensures
    ∙ ap (λ (n : ℕ). is_within q.max_samples n) (ap (λ (n : ℕ). n + one_if c.if-is_write.is_left) count
    ∙ (ap (λ (b : Bool). count_by (is_present_write q g) c.args.samples.now + one_if b) leaves
    ∙ sym (writes-after q c.args.arrival.now h c.args.samples.now holds.each holds.present awaits.fresh awaits.accepted)))
