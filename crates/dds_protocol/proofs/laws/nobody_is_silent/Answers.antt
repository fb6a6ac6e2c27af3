use Rattle.dds_protocol.proofs.Answered.{opens_answered, runs_answered, stays_answered}
use Rattle.dds_protocol.proofs.laws.nobody_is_silent.Goals as goal

pub returns : goal.returns
returns c = record { opens = opens_answered; stays = stays_answered; runs = runs_answered }
