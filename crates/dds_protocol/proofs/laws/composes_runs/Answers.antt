use Rattle.dds_protocol.proofs.RunLaws.{composes_runs}
use Rattle.dds_protocol.proofs.laws.composes_runs.Goals as goal

pub returns : goal.returns
returns c = record { run = composes_runs }
