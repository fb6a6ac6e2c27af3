use Rattle.rtps_matching.proofs.Standing as standing
use Rattle.rtps_matching.proofs.laws.an_announcement_is_of_one.Goals as goal

pub returns : goal.returns
returns c = record { others = standing.others_stay; few = standing.announces_few }
