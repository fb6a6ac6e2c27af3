use Rattle.dds_protocol.proofs.InOrderRuns.{changes_come_in_order}
use Rattle.dds_protocol.proofs.laws.changes_come_in_order.Goals as goal

pub returns : goal.returns
returns c = record { order = changes_come_in_order }
