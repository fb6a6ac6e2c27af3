use Rattle.rtps_adapter.proofs.Places.{none_is_read}
use Rattle.rtps_adapter.proofs.laws.what_cant_be_turned_is_not_read.Goals as goal

pub returns : goal.returns
returns c = record { none = none_is_read }
