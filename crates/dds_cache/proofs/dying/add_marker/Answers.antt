use Rattle.std.proofs.Common.{List, ◌+◌, ◌∷◌, [], length, sym, subst}
use Rattle.std.specs.List.{All}
use Rattle.std.proofs.lemmas.List.Elements.{All-push}
use Rattle.dds_base.specs.declared.happening.Happening.TheVariants.{Died}
use Rattle.dds_cache.specs.declared.kept.Kept.{Kept}
use Rattle.dds_cache.specs.Dying.{AddsOf}
use Rattle.dds_cache.specs.Finding.{IsSmall}
use Rattle.dds_cache.proofs.DeathLaws.{adds-of-one, adds-of-nothing}
use Rattle.dds_cache.proofs.dying.add_marker.Goals as goal

pub returns-in-Some-clause-samples : goal.returns-in-Some-clause-samples
returns-in-Some-clause-samples c = λ q h i takes.
    subst (λ (ks : List Kept). AddsOf q (Died c.args.writer c.args.moment ∷ h) (length h + 1)
    (i ∷ []) c.args.samples.now.items ks) (sym c.add.ensures.items)
    (adds-of-one q (Died c.args.writer c.args.moment ∷ h) (length h + 1) i c.args.samples.now.items c.in-Some.kept
    (c.in-Some.ensures.left q h i takes))

pub returns-in-Some-clause-small : goal.returns-in-Some-clause-small
returns-in-Some-clause-small c = λ small.
    subst (λ (ks : List Kept). All IsSmall ks) (sym c.add.ensures.items)
    (All-push IsSmall c.args.samples.now.items c.in-Some.kept small c.in-Some.ensures.small)

pub returns-in_default-clause-samples : goal.returns-in_default-clause-samples
returns-in_default-clause-samples c =
    λ q h i takes. adds-of-nothing q (Died c.args.writer c.args.moment ∷ h)
    (length h + 1) i c.args.samples.now.items (c.in_default.ensures.left q h i takes)
