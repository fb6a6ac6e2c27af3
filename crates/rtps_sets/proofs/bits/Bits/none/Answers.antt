use Rattle.rtps_sets.proofs.WordLaws.{no_bits}
use Rattle.rtps_sets.proofs.bits.Bits.none.Goals as goal

pub returns : goal.returns
returns c = no_bits
