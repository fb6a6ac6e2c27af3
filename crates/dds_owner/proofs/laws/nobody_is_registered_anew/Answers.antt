use Rattle.dds_owner.proofs.KeptLaws.{stands-anew}
use Rattle.dds_owner.proofs.laws.nobody_is_registered_anew.Goals as goal

pub returns : goal.returns
returns c = record { stands = λ kept q i h given nobody. stands-anew kept q i h given nobody }
