use Rattle.std.proofs.Common.{◌≡◌, ◌≤◌, ◌++◌, List, length, drop, subst, sym, ap, ◌∙◌, arith}
use Rattle.std.specs.List.{list_any}
use Rattle.dds_owner.specs.declared.registration.Registration.{Registration}
use Rattle.dds_owner.specs.Registration.{is_there}
use Rattle.dds_owner.specs.Standing.{IsBlank, Kept, StandsFor, has_writers, places_of}
use Rattle.dds_owner.proofs.KeptLaws.{widened}
use Rattle.dds_owner.proofs.RegistrationLaws.{somebody-more}
use Rattle.dds_owner.proofs.owners.Owners.widen.Goals as goal

-- those of before, and behind them the blank ones
put : (c : goal.After-drop-self-inside)
    → c.put_front.new.registrations.items
    ≡ c.self.inside.registrations.items
    ++ drop (length c.self.inside.registrations.items) c.blank.inside.registrations.items
put c =
    c.put_front.ensures
    ∙ ap (λ (rs : List Registration). rs ++ drop (length rs) c.blank.inside.registrations.items) c.deref.ensures.value

pub returns-clause-same : goal.returns-clause-same
returns-clause-same c = λ n q i h is_blank few given.
    let more : length c.self.inside.registrations.items ≤ length c.blank.inside.registrations.items =
    omega (
      arith,
      c.if-places.false,
      c.places.ensures,
      c.places-2.ensures,
      ap (λ (k : Kept). places_of k) c.self.view_is,
      ap (λ (k : Kept). places_of k) c.blank.view_is,
    ) in
    widened n q i h _ _ c.put_front.new.registrations.items
    (subst (λ (k : Kept). IsBlank n k) (sym c.blank.view_is) is_blank) few more (put c)
    (subst (λ (k : Kept). StandsFor k q i h) (sym c.self.view_is) given)

pub returns-clause-writers : goal.returns-clause-writers
returns-clause-writers c = λ n is_blank.
    ap (λ (rs : List Registration). list_any is_there rs) (put c)
    ∙ (somebody-more c.self.inside.registrations.items c.blank.inside.registrations.items
    (length c.self.inside.registrations.items)
    (ap (λ (k : Kept). has_writers k) c.blank.view_is ∙ is_blank.nobody)
    ∙ ap (λ (k : Kept). has_writers k) c.self.view_is)
