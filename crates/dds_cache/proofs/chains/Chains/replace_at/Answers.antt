use Rattle.std.proofs.Common.{◌≡◌, true, false, subst}
use Rattle.std.specs.Prelude.{IsSome}
use Rattle.std.proofs.lemmas.Option.{slice_get_within}
use Rattle.indexmap.proofs.CallerLemmas.{updates-with_value_at}
use Rattle.dds_cache.proofs.ChainLaws.{keys-equivalent}
use Rattle.dds_cache.proofs.chains.Chains.replace_at.Goals as goal

pub returns-in-Some-clause-spans : goal.returns-in-Some-clause-spans
returns-in-Some-clause-spans c = λ i before found.
    updates-with_value_at c.args.self.now.spans c.args.at c.args.span keys-equivalent c.get_index_mut.ensures.unique i before
    found

pub returns-in_default-clause-spans : goal.returns-in_default-clause-spans
returns-in_default-clause-spans c = λ i before found.
    absurd (let clash : false ≡ true =
    subst IsSome c.in_default.is (c.get_index_mut.ensures.found.1 (slice_get_within _ _ _ found)) in cc)
