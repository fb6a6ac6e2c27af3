use Rattle.rtps_discovery.proofs.Standing as standing
use Rattle.rtps_discovery.proofs.laws.others_stay.Goals as goal

pub returns : goal.returns
returns c = record { others = standing.others_stay; nothing = standing.nothing_changes }
