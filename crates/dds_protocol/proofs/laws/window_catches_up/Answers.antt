use Rattle.dds_protocol.proofs.CaughtUp.{window_catches_up}
use Rattle.dds_protocol.proofs.laws.window_catches_up.Goals as goal

pub returns : goal.returns
returns c = record { window = window_catches_up }
