use Rattle.dds_protocol.proofs.Rosters.{configs_are_good, good_are_rosters}
use Rattle.dds_protocol.proofs.laws.configurations_are_rosters.Goals as goal

pub returns : goal.returns
returns c = record { good = configs_are_good; roster = good_are_rosters }
