use Rattle.rtps_fragments.proofs.Keeping as keeping
use Rattle.rtps_fragments.proofs.laws.few_are_kept.Goals as goal

pub returns : goal.returns
returns c = record { kept = keeping.few_are_kept; none = keeping.none_are_few; known = keeping.known_are_few; short = keeping.few_are_short }
