use Rattle.std.proofs.Common.{ℕ, ap}
use Rattle.dds_base.specs.Offers.{unfit_policies}
use Rattle.dds_base.specs.declared.unfit.UnfitPolicies.{UnfitPolicies}
use Rattle.dds_base.proofs.UnfitLaws.{set_so, set_in_turn-is}
use Rattle.dds_base.proofs.offers.unfit_policies.Goals as goal

abbrev of_bits : ℕ → UnfitPolicies
of_bits n = record { 0 = n }

pub returns : goal.returns
unfolding unfit_policies
returns c = record {
  unfit = ap of_bits
      (set_in_turn-is _ _ _ _ _ _ _ _ _ _ _ _ _ _ _ _ _ (c.empty-unfit.ensures tt)
      (set_so _ _ _ _ (c.set.ensures tt) _ c.offers_durability.ensures)
      (set_so _ _ _ _ (c.set-2.ensures tt) _ c.offers_presentation.ensures)
      (set_so _ _ _ _ (c.set-3.ensures tt) _ c.offers_deadline.ensures)
      (set_so _ _ _ _ (c.set-4.ensures tt) _ c.offers_latency_budget.ensures)
      (set_so _ _ _ _ (c.set-5.ensures tt) _ c.offers_ownership.ensures)
      (set_so _ _ _ _ (c.set-6.ensures tt) _ c.offers_liveliness.ensures)
      (set_so _ _ _ _ (c.set-7.ensures tt) _ c.offers_reliability.ensures)
      (set_so _ _ _ _ (c.set-8.ensures tt) _ c.offers_destination_order.ensures));
}
