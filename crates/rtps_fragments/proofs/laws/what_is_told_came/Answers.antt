use Rattle.rtps_fragments.proofs.Arriving as arriving
use Rattle.rtps_fragments.proofs.laws.what_is_told_came.Goals as goal

pub returns : goal.returns
returns c = record { told = arriving.what_is_told_came; nothing = arriving.nothing_came; known = arriving.known_came }
