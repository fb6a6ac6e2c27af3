use Rattle.rtps_fragments.proofs.FragmentLaws.{one_is_read}
use Rattle.rtps_fragments.proofs.laws.one_fragment_is_read.Goals as goal

pub returns : goal.returns
returns c = record { one = one_is_read }
