use Rattle.dds_protocol.proofs.Bounded.{opens_bounded, steps_bounded, runs_bounded}
use Rattle.dds_protocol.proofs.Strangers.{nobody_is_strange}
use Rattle.dds_protocol.proofs.laws.places_are_bounded.Goals as goal

pub returns : goal.returns
returns c = record { opening = opens_bounded; step = steps_bounded; run = runs_bounded; strange = nobody_is_strange }
