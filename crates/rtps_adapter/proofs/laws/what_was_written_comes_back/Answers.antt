use Rattle.rtps_adapter.proofs.MessageRounds.{comes_back, comes_back_filled}
use Rattle.rtps_adapter.proofs.laws.what_was_written_comes_back.Goals as goal

pub returns : goal.returns
returns c = record { back = comes_back; filled = comes_back_filled }
