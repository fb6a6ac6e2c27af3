use Rattle.dds_core.proofs.Remembered.{right_of_none}
use Rattle.dds_core.proofs.application.Core.deliver.Goals as goal

pub happen-requires : goal.happen-requires
happen-requires g c = record { right = right_of_none _ _ c.nowhere-misses.result c.nowhere-misses.ensures }
