use Rattle.std.proofs.Common.{List, [], ◌∷◌, ◌++◌, sym, subst, ap, ◌∙◌}
use Rattle.std.specs.List.{All}
use Rattle.std.proofs.lemmas.List.Elements.{All-push}
use Rattle.dds_base.specs.declared.happening.Happening.TheVariants.{Came}
use Rattle.dds_cache.specs.declared.kept.Kept.{Kept}
use Rattle.dds_cache.specs.Finding.{IsSmall}
use Rattle.dds_cache.specs.Kept.{Adds}
use Rattle.dds_cache.proofs.ArrivingLaws.{adds-write}
use Rattle.dds_cache.proofs.arriving.add_write.Goals as goal

pub returns-clause-samples : goal.returns-clause-samples
returns-clause-samples c = λ q h leaves.
    let old : List Kept = c.args.samples.now.items in
    subst (λ (ks : List Kept). Adds q (Came c.args.arrival) h old ks)
    (sym (c.add.ensures.items ∙ ap (λ (k : Kept). old ++ k ∷ []) c.kept_of.ensures))
    (adds-write q c.args.arrival h c.args.known.now c.args.position old leaves)

pub returns-clause-small : goal.returns-clause-small
returns-clause-small c = λ small.
    subst (λ (ks : List Kept). All IsSmall ks) (sym c.add.ensures.items)
    (All-push IsSmall c.args.samples.now.items c.kept_of.result small
    (subst (λ (k : Kept). IsSmall k) (sym c.kept_of.ensures) c.requires.generations))
