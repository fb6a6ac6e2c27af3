use Rattle.dds_core.proofs.Remembered.{right_of_none}
use Rattle.dds_core.proofs.application.Core.step.Goals as goal

pub step_with-requires : goal.step_with-requires
step_with-requires g c = record { right = right_of_none _ _ c.nowhere-misses.result c.nowhere-misses.ensures }
