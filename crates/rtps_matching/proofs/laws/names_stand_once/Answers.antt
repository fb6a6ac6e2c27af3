use Rattle.rtps_matching.proofs.Standing as standing
use Rattle.rtps_matching.proofs.laws.names_stand_once.Goals as goal

pub returns : goal.returns
returns c = record {
  opening = standing.opens_once;
  add = standing.adds_once;
  remove = standing.removes_once;
  leave = standing.leaves_once;
  turn = standing.turns_once;
  announce = standing.announces_once;
}
