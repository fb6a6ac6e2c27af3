use Rattle.dds_base.proofs.UnfitLaws.{tells_each, unfit-empty, unfit-ids}
use Rattle.dds_base.proofs.laws.unfit_policies_are_those_not_offered.Goals as goal

pub returns-clause-none : goal.returns-clause-none
returns-clause-none c = λ w r. unfit-empty w r

pub returns-clause-durability : goal.returns-clause-durability
returns-clause-durability c = λ w r. (tells_each w r).durability

pub returns-clause-presentation : goal.returns-clause-presentation
returns-clause-presentation c = λ w r. (tells_each w r).presentation

pub returns-clause-deadline : goal.returns-clause-deadline
returns-clause-deadline c = λ w r. (tells_each w r).deadline

pub returns-clause-latency_budget : goal.returns-clause-latency_budget
returns-clause-latency_budget c = λ w r. (tells_each w r).latency_budget

pub returns-clause-ownership : goal.returns-clause-ownership
returns-clause-ownership c = λ w r. (tells_each w r).ownership

pub returns-clause-liveliness : goal.returns-clause-liveliness
returns-clause-liveliness c = λ w r. (tells_each w r).liveliness

pub returns-clause-reliability : goal.returns-clause-reliability
returns-clause-reliability c = λ w r. (tells_each w r).reliability

pub returns-clause-destination_order : goal.returns-clause-destination_order
returns-clause-destination_order c = λ w r. (tells_each w r).destination_order

pub returns-clause-ids : goal.returns-clause-ids
returns-clause-ids c = λ w r. unfit-ids w r
