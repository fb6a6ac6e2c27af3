use Rattle.dds_base.specs.Offers.{has_policy}
use Rattle.dds_base.proofs.UnfitLaws.{Found}
use Rattle.dds_base.proofs.unfit.UnfitPolicies.ids.Given as goal

abbrev pub invariant-loop-id : goal.invariant-loop-id
invariant-loop-id l = Found (has_policy l.self) l.id-items l.ids.items l.id-index
