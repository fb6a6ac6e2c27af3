use Rattle.rtps_adapter.proofs.Leaving.{goes_out}
use Rattle.rtps_adapter.proofs.laws.what_goes_out_is_of_its_type.Goals as goal

pub returns : goal.returns
returns c = record { fits = goes_out }
