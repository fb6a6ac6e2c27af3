use Rattle.rtps_adapter.proofs.Places.{same_places}
use Rattle.rtps_adapter.proofs.laws.each_submessage_keeps_its_place.Goals as goal

pub returns : goal.returns
returns c = record { same = same_places }
