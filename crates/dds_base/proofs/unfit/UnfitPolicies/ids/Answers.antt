use Rattle.std.proofs.Common.{ℕ, refl, ap, sym, ◌∙◌}
use Rattle.arrayvec.specs.ArrayVec.{ArrayVec}
use Rattle.dds_base.specs.Offers.{has_policy, ids_of, policy_ids}
use Rattle.dds_base.proofs.UnfitLaws.{found_none, found_one, found_other, found_all}
use Rattle.dds_base.proofs.unfit.UnfitPolicies.ids.Goals.{then-has, else-has}
use Rattle.dds_base.proofs.unfit.UnfitPolicies.ids.Goals as goal

pub loop-id-init : goal.loop-id-init
loop-id-init c = found_none (has_policy c.args.self) policy_ids _ c.new-ids.ensures

pub loop-id-preserved : goal.loop-id-preserved
loop-id-preserved c = elim c.if-has.branch [
  | then-has w ↦ found_one (has_policy c.args.self) policy_ids _ _ _ _ c.loop-id.invariant c.loop-id-test.true refl
      (sym c.has.ensures ∙ w.if-has.true) (ap (λ (v : ArrayVec ℕ). v.items) w.ids-is ∙ w.push.ensures.items)
  | else-has w ↦ found_other (has_policy c.args.self) policy_ids _ _ _ _ c.loop-id.invariant c.loop-id-test.true refl
      (sym c.has.ensures ∙ w.if-has.false) (ap (λ (v : ArrayVec ℕ). v.items) w.ids-is)
]

pub returns : goal.returns
unfolding ids_of
returns c = record {
  ids = found_all (has_policy c.args.self) policy_ids _ _ c.loop-id.invariant c.loop-id-test.false;
}
