use Rattle.rtps_discovery.proofs.Telling as telling
use Rattle.rtps_discovery.proofs.laws.what_is_told_is_so.Goals as goal

pub returns : goal.returns
returns c = record { told = telling.told_is_so; others = telling.others_are_there }
