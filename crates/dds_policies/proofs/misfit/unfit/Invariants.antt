use Rattle.dds_policies.proofs.FirstLaws.{Sought}
use Rattle.dds_policies.proofs.misfit.unfit.Given as goal

abbrev pub invariant-loop-policy : goal.invariant-loop-policy
invariant-loop-policy l = Sought l.unfit l.policy-items l.policy-index l.offered l.requested
