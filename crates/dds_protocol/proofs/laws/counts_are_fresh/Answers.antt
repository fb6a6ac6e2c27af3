use Rattle.dds_protocol.proofs.CountsOpened.{opens_used}
use Rattle.dds_protocol.proofs.FreshCounts.{steps_used}
use Rattle.dds_protocol.proofs.laws.counts_are_fresh.Goals as goal

pub returns-clause-opening : goal.returns-clause-opening
returns-clause-opening c = opens_used

pub returns-clause-step : goal.returns-clause-step
returns-clause-step c = steps_used
