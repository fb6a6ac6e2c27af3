use Rattle.std.proofs.Common.{◌≡◌, List, false, not, filter, rules, subst, sym, ap, ◌∙◌}
use Rattle.std.specs.List.{list_any}
use Rattle.std.proofs.lemmas.Fn.{filter_same}
use Rattle.dds_base.specs.declared.key.Key.{Key}
use Rattle.dds_base.specs.Happening.{same_key}
use Rattle.dds_instances.specs.Keys.{Keys}
use Rattle.dds_instances.proofs.PlaceLaws.{none-left}
use Rattle.dds_instances.proofs.place.KeyIndex.forget.Goals as goal

pub invariant_of-self : goal.invariant_of-self
invariant_of-self c =
    subst (λ (ks : List Key). list_any (same_key c.args.key) ks ≡ false)
    (sym (filter_same _ (λ (k : Key). not (same_key k c.args.key)) _ (λ x b f' k. search rules) _ _
    c.retain.ensures.filtered))
    (none-left c.self.inside.set.keys c.args.key)

pub returns-clause-keys : goal.returns-clause-keys
returns-clause-keys c =
    filter_same _ (λ (k : Key). not (same_key k c.args.key)) _ (λ x b f' k. search rules) _ _ c.retain.ensures.filtered
    ∙ ap (λ (t : Keys). filter (λ (k : Key). not (same_key k c.args.key)) t.keys) c.self.view_is
