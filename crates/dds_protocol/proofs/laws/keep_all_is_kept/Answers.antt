use Rattle.dds_protocol.proofs.KeptRuns.{closed_loses_none, keep_all_is_kept}
use Rattle.dds_protocol.proofs.laws.keep_all_is_kept.Goals as goal

pub returns : goal.returns
returns c = record { kept = keep_all_is_kept; closed = closed_loses_none }
