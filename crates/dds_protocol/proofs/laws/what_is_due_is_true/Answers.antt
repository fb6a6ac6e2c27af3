use Rattle.dds_protocol.proofs.DuesAssertions.{assertions_true, assertions_writable}
use Rattle.dds_protocol.proofs.DuesHeartbeats.{ticks_writable}
use Rattle.dds_protocol.proofs.DuesPackets.{packet_truthful, packet_writable, tick_truthful}
use Rattle.dds_protocol.proofs.laws.what_is_due_is_true.Goals as goal

pub returns : goal.returns
returns c = record {
  packet = packet_truthful;
  tick = tick_truthful;
  ticked = ticks_writable;
  written = packet_writable;
  assertion = assertions_true;
  told = assertions_writable;
}
