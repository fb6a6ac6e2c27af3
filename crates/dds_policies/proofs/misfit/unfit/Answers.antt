use Rattle.std.proofs.Common.{refl, sym, ◌∙◌}
use Rattle.dds_policies.specs.declared.misfit.Misfit.TheVariants.{Reliability}
use Rattle.dds_policies.proofs.FirstLaws.{bit, in_order, sought-first, sought-here, sought-next, sought-last}
use Rattle.dds_policies.proofs.misfit.unfit.Goals as goal

pub loop-policy-init : goal.loop-policy-init
loop-policy-init c = sought-first _ _ _ c.unfit_policies-unfit.ensures.unfit

pub returns-then-contains : goal.returns-then-contains
returns-then-contains c = record {
  first = sought-here _ in_order _ _ _ _ (bit 0, Reliability) c.loop-policy.invariant
      c.loop-policy-test.true refl (sym (c.contains.ensures tt) ∙ c.if-contains.true);
}

pub loop-policy-preserved : goal.loop-policy-preserved
loop-policy-preserved c = sought-next _ in_order _ _ _ _ (bit 0, Reliability) c.loop-policy.invariant
    c.loop-policy-test.true refl (sym (c.contains.ensures tt) ∙ c.if-contains.false)

pub returns : goal.returns
returns c = record { first = sought-last _ in_order _ _ _ c.loop-policy.invariant c.loop-policy-test.false }
