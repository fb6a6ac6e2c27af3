use Rattle.std.proofs.Common.{List, sym, subst}
use Rattle.std.specs.List.{All}
use Rattle.std.proofs.lemmas.List.Elements.{All-push}
use Rattle.dds_base.specs.declared.happening.Happening.TheVariants.{Came}
use Rattle.dds_cache.specs.declared.kept.Kept.{Kept}
use Rattle.dds_cache.specs.Finding.{IsSmall}
use Rattle.dds_cache.specs.Kept.{Adds}
use Rattle.dds_cache.proofs.StandingLaws.{adds-one, adds-nothing}
use Rattle.dds_cache.proofs.arriving.add_left.Goals as goal

pub returns-in-Some-clause-samples : goal.returns-in-Some-clause-samples
returns-in-Some-clause-samples c = λ h takes.
    subst (λ (ks : List Kept). Adds c.args.qos.now (Came c.args.arrival) h c.args.samples.now.items ks)
    (sym c.add.ensures.items)
    (adds-one c.args.qos.now c.args.arrival h c.args.samples.now.items c.in-Some.kept
    (c.in-Some.ensures.left h takes))

pub returns-in-Some-clause-small : goal.returns-in-Some-clause-small
returns-in-Some-clause-small c = λ small.
    subst (λ (ks : List Kept). All IsSmall ks) (sym c.add.ensures.items)
    (All-push IsSmall c.args.samples.now.items c.in-Some.kept small c.in-Some.ensures.small)

pub returns-in_default-clause-samples : goal.returns-in_default-clause-samples
returns-in_default-clause-samples c =
    λ h takes. adds-nothing c.args.qos.now c.args.arrival h c.args.samples.now.items
    (c.in_default.ensures.left h takes)
