-- That packets are messages, and how many of one event may be counted as unsent.
--
-- RTPS 2.5, 8.3.7 (what stands in a message).
use Rattle.std.specs.Prelude.{ℕ, ◌^◌, Contains, List}
use Rattle.rtps_wire.specs.Messages.{HasSubmessage}
use Rattle.dds_protocol.specs.declared.event.Packet.{Packet}

-- Of one event fewer packets than this are counted as unsent: such counts can be added.
abbrev pub max_unsent : ℕ
max_unsent = 2 ^ 62

-- each packet is a message
abbrev pub AreMessages : List Packet → Type 0
AreMessages packets = (packet : Packet) → Contains packets packet → HasSubmessage packet.bytes
