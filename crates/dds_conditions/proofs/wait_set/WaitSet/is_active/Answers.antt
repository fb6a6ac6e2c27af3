use Rattle.std.proofs.Common.{rules, refl, ap, ◌∙◌}
use Rattle.std.specs.List.{list_any}
use Rattle.std.proofs.lemmas.Iterator.Search.{any_from_yields_List}
use Rattle.std.proofs.lemmas.Iterator.{YieldsList-from_slice}
use Rattle.dds_conditions.proofs.wait_set.WaitSet.is_active.Goals as goal

pub returns : goal.returns
returns g c = record {
  active = λ trigger answers.
      any_from_yields_List trigger _ _ _ c.any.ensures.ran (YieldsList-from_slice c.iter.result.rest.now cc)
      (λ x b q k. let a = answers x.now b q (record { shown = x; shows = refl; called = k }) in (a.1, a.0))
      ∙ ap (list_any trigger) (search rules);
}
