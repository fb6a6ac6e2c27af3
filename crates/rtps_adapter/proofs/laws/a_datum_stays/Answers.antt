use Rattle.rtps_adapter.proofs.Places.{strangers_stay}
use Rattle.rtps_adapter.proofs.laws.a_datum_stays.Goals as goal

pub returns : goal.returns
returns c = record { stays = strangers_stay }
