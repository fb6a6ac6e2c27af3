use Rattle.std.proofs.Common.{◌≡◌, ◌∙◌, true, false, Option, ap, subst}
use Rattle.std.specs.Option.{unwrap_or}
use Rattle.std.specs.Prelude.{IsSome}
use Rattle.std.proofs.lemmas.Option.{slice_get_within}
use Rattle.indexmap.proofs.CallerLemmas.{updates-with_value_at}
use Rattle.dds_base.specs.Happening.{same_key}
use Rattle.dds_history.specs.declared.held.KeyCount.{KeyCount}
use Rattle.dds_history.proofs.Placing.{count-chosen, keys-equivalent}
use Rattle.dds_history.proofs.held.recount.Goals as goal

pub returns-in-Some : goal.returns-in-Some
returns-in-Some c = λ key before stands k.
    let updates =
    updates-with_value_at c.args.keys.now c.args.place c.args.count keys-equivalent c.get_index_mut.ensures.unique key before
    stands in
    ap (λ (o : Option KeyCount). unwrap_or o (record { turns = 0; kept = 0 })) (updates.0 k)
    ∙ count-chosen (same_key key k) c.args.count _

pub returns-in_default : goal.returns-in_default
returns-in_default c = λ key before stands.
    absurd (let clash : false ≡ true =
    subst IsSome c.in_default.is (c.get_index_mut.ensures.found.1 (slice_get_within _ _ _ stands)) in cc)
