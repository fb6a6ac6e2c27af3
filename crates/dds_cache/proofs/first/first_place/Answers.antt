use Rattle.std.proofs.Common.{◌-◌, ℕ, ap, subst, sym, ◌∙◌}
use Rattle.dds_base.specs.declared.selection.Selection.{Selection}
use Rattle.dds_cache.specs.First.{IsFirstPlace}
use Rattle.dds_cache.proofs.AskedLaws.{place-instance}
use Rattle.dds_cache.proofs.first.first_place.Goals as goal

pub returns-in-Instance : goal.returns-in-Instance
returns-in-Instance c = λ q h stands.
    subst (λ (selection : Selection). IsFirstPlace q h selection c.place_above.result) (sym c.in-Instance.is)
    (place-instance q h c.in-Instance.handle c.new.result c.in-Instance.max c.in-Instance.masks c.place_above.result
    (c.new.ensures.number ∙ (c.saturating_sub.ensures ∙ ap (λ (n : ℕ). n - 1) c.number.ensures.number))
    (c.place_above.ensures.before q h stands) (c.place_above.ensures.above q h stands))
