use Rattle.std.proofs.Common.{subst}
use Rattle.dds_instances.specs.Following.{IsPlaceOf}
use Rattle.dds_instances.specs.Keys.{Keys}
use Rattle.dds_instances.proofs.PlaceLaws.{place-got}
use Rattle.dds_instances.proofs.place.find.Goals as goal

pub returns-then-is_at : goal.returns-then-is_at
returns-then-is_at c =
    subst (λ (t : Keys). IsPlaceOf t.keys c.args.key c.index.inside.latest) c.index.view_is
    (place-got c.index.inside.set.keys c.args.key c.index.inside.latest c.len.ensures.unique (c.is_at.ensures c.if-is_at.true))
