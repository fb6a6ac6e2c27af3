use Rattle.std.proofs.Common.{ℕ, ◌+◌, ◌-◌, ◌≡◌, List, [], ◌∷◌, ◌++◌, ap, sym, ◌∙◌, arith}
use Rattle.std.proofs.lemmas.List.{append-nil}
use Rattle.dds_owner.specs.Registration.{unregistered, blank_registrations}
use Rattle.dds_owner.specs.declared.registration.Registration.{Registration}
use Rattle.dds_owner.proofs.RegistrationLaws.{blank-step}
use Rattle.dds_owner.proofs.registration.blank_items.Goals as goal

pub loop-at-preserved : goal.loop-at-preserved
loop-at-preserved c =
    let done : List Registration = c.loop-at.items.items in
    ap
    (λ (rs : List Registration). rs
    ++ blank_registrations (c.loop-at.at + 1 + 1) (c.args.writers - (c.loop-at.at + 1)))
    (c.in_ok-push.ensures.items ∙ ap (λ (w : ℕ). done ++ unregistered w ∷ []) c.new.ensures.number)
    ∙ blank-step (c.loop-at.at + 1) c.loop-at.at c.args.writers done _ c.loop-at-test.true c.loop-at.invariant

pub returns : goal.returns
returns c =
    let done : List Registration = c.loop-at.items.items in
    let none : c.args.writers - c.loop-at.at ≡ 0 = omega (arith, c.loop-at-test.false) in
    sym (append-nil done)
    ∙ (ap (λ (n : ℕ). done ++ blank_registrations (c.loop-at.at + 1) n) (sym none) ∙ c.loop-at.invariant)
