use Rattle.std.proofs.Common.{◌≡◌, ◌⊎◌, ℕ, ◌+◌, ◌<◌, Bool, true, false, not, ◌&&◌, ◌==◌, ap, sym, refl, ◌∙◌, ⊎_elim, arith, rules, Some}
use Rattle.std.specs.Prelude.{if◌then◌else◌}
use Rattle.std.proofs.lemmas.Bool.{cases_Bool}
use Rattle.dds_owner.specs.Restrengthening.{MAX_CHANGES, is_new_strength}
use Rattle.dds_owner.specs.Standing.{KeptStrengths, kept_strength}
use Rattle.dds_owner.proofs.StrengthLaws.{set-tells}
use Rattle.dds_owner.proofs.strengths.Strengths.set_strength.Goals as goal
use Rattle.dds_owner.proofs.strengths.Strengths.set_strength.Goals.{then-is_kept, else-is_kept}

not-false : (b : Bool) → not b ≡ false → b ≡ true
not-false true e = refl
not-false false e = absurd cc

pub returns-clause-came : goal.returns-clause-came
returns-clause-came c = λ h a low high given writer strength.
    let placed : c.put-is_kept.result ≡ true =
    ⊎_elim (λ is. is)
    (λ none. absurd (⊎_elim (λ past. omega (arith, past, high)) (λ nil. omega (arith, nil, low)) (c.put-is_kept.ensures.outside none)))
    (cases_Bool c.put-is_kept.result) in
    let counted : c.if-is_kept.self < MAX_CHANGES → c.if-is_kept.self ≡ c.args.self.now.changes + 1 =
    elim c.if-is_kept.branch [
      | then-is_kept w ↦ λ below. omega (
        arith,
        below,
        w.self-is,
        w.saturating_add-self-inside.ensures,
        ap (λ (k : KeptStrengths). k.changes) c.self.view_is,
        c.put-is_kept.ensures.changes,
      )
      | else-is_kept w ↦ λ below. absurd (let clash : true ≡ false = sym placed ∙ w.if-is_kept.false in cc)
    ] in
    let old_one : not (is_new_strength (Some c.args.strength) (kept_strength c.args.self.now c.args.writer)) ≡ false =
    search rules in
    let told : (v : ℕ) → kept_strength c.put-is_kept.new.self v
    ≡ (if c.put-is_kept.result && (v == c.args.writer) then Some c.args.strength else kept_strength c.args.self.now v) =
    search rules in
    set-tells c.args.self.now c.put-is_kept.new.self _ h a c.args.writer c.args.strength given writer strength
    (not-false (is_new_strength (Some c.args.strength) (kept_strength c.args.self.now c.args.writer)) old_one)
    (λ v. told v
    ∙ ap (λ (b : Bool). if b && (v == c.args.writer) then Some c.args.strength else kept_strength c.args.self.now v) placed)
    (ap (λ (k : KeptStrengths). k.told) c.self.view_is)
    (ap (λ (k : KeptStrengths). k.joined) c.self.view_is ∙ c.put-is_kept.ensures.joined)
    counted
