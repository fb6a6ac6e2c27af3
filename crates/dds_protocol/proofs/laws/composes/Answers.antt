use Rattle.dds_protocol.proofs.Composed.{composes}
use Rattle.dds_protocol.proofs.laws.composes.Goals as goal

pub returns : goal.returns
returns c = record { step = composes }
