use Rattle.dds_protocol.proofs.Meetings.{nobody_is_met}
use Rattle.dds_protocol.proofs.laws.nobody_is_met.Goals as goal

pub returns : goal.returns
returns c = record { none = nobody_is_met }
