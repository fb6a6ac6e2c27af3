use Rattle.dds_base.proofs.PairLaws.{incompatible-is, policies-decide, units-short}
use Rattle.dds_base.proofs.laws.ends_fit_but_for_ownership_reliability_and_leases.Goals as goal

pub returns-clause-pair : goal.returns-clause-pair
returns-clause-pair c = λ w r. incompatible-is w r

pub returns-clause-lease : goal.returns-clause-lease
returns-clause-lease c = λ units short. units-short units short

pub returns-clause-policies : goal.returns-clause-policies
returns-clause-policies c = λ w r said asked. policies-decide w r said asked
