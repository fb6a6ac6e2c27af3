use Rattle.std.proofs.Common.{◌≡◌, ◌∷◌, Bool, true, false, not, ◌&&◌, sym, ap, ◌∙◌, refl, rules}
use Rattle.std.proofs.lemmas.Bool.{and_right}
use Rattle.dds_base.specs.declared.happening.Happening.TheVariants.{Came}
use Rattle.dds_base.specs.Life.{ends_with_write, keeps}
use Rattle.dds_base.specs.declared.qos.ReaderQos.{ReaderQos}
use Rattle.dds_base.specs.declared.happening.Arrival.{Arrival}
use Rattle.dds_base.proofs.LifeLaws.{ends-marked, ends-registered}
use Rattle.dds_cache.proofs.HoldLaws.{ends-by-kept, ends-written}
use Rattle.dds_cache.proofs.ending.is_end.Goals as goal
use Rattle.dds_cache.proofs.ending.is_end.Goals.{then-not-would_be_left-via-then-not-would_be_left, then-not-would_be_left-via-else-not-would_be_left+then-would_mark, else-is_kept_after-via-then-is_kept_after+else-is_accepted_write, else-is_kept_after-via-else-is_kept_after}

pub returns-then-not-would_be_left : goal.returns-then-not-would_be_left
returns-then-not-would_be_left c = λ h holds fresh.
    let q : ReaderQos = c.args.qos.now in
    let a : Arrival = c.args.arrival.now in
    elim c.then-not-would_be_left.branch [
      | then-not-would_be_left-via-then-not-would_be_left w ↦
          let none : c.would_be_left.result ≡ false = search rules in
          sym (ends-registered q a.change.key h (Came a)
          (sym (c.would_be_left.ensures.left q h holds.instances) ∙ none))
      | then-not-would_be_left-via-else-not-would_be_left+then-would_mark w ↦
          sym (ends-marked q a.change.key h (Came a)
          (sym (w.would_mark.ensures.marks h holds.instances) ∙ w.if-would_mark.true) fresh.untaken)
    ]

pub returns-then-is_accepted_write : goal.returns-then-is_accepted_write
returns-then-is_accepted_write c = λ h holds fresh.
    sym (ends-written c.args.qos.now c.args.arrival.now h fresh (sym c.is_kept_after.ensures ∙ c.if-is_kept_after.true)
    (sym (c.is_accepted_write.ensures h holds.instances) ∙ c.if-is_accepted_write.true))

pub returns : goal.returns
returns c = λ h holds fresh.
    let q : ReaderQos = c.args.qos.now in
    let a : Arrival = c.args.arrival.now in
    let w : Bool = ends_with_write q a.change.key (Came a ∷ h) in
    let left : c.would_be_left.result ≡ true = search rules in
    let unkept : (keeps q.history 0 && w) ≡ false = elim c.else-is_kept_after.branch [
      | else-is_kept_after-via-then-is_kept_after+else-is_accepted_write v ↦
          ap (λ (b : Bool). keeps q.history 0 && b)
          (sym (v.is_accepted_write.ensures h holds.instances) ∙ v.if-is_accepted_write.false)
          ∙ and_right (keeps q.history 0) false refl
      | else-is_kept_after-via-else-is_kept_after v ↦
          ap (λ (b : Bool). b && w) (sym c.is_kept_after.ensures ∙ v.if-is_kept_after.false)
    ] in
    ap (λ (b : Bool). not b) (c.is_any_present.ensures h holds.instances holds.each)
    ∙ ends-by-kept q a h c.args.instances.now c.args.samples.now w
    (sym (c.would_be_left.ensures.left q h holds.instances) ∙ left)
    (sym (c.would_mark.ensures.marks h holds.instances) ∙ c.if-would_mark.false) refl unkept holds
