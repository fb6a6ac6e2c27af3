use Rattle.rtps_adapter.proofs.Taking as taking
use Rattle.rtps_adapter.proofs.laws.values_are_read.Goals as goal

pub returns : goal.returns
returns c = record { read = taking.values_are_read; filled = taking.values_are_read_filled }
