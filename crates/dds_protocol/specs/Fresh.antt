-- Counts of HEARTBEATs and of ACKNACKs: none was sent or taken that its sender has not used, so that the next one is
-- newer than all before it.
--
-- RTPS 2.5, 8.3.8 (Heartbeat, AckNack: count), 8.4.9, 8.4.12.
use Rattle.std.specs.Prelude.{◌≡◌, ℕ, List, Some, ℤ, pos, ◌≤ℤ◌, Contains}
use Rattle.dds_base.specs.declared.config.Config.{Config}
use Rattle.dds_base.specs.declared.guid.GuidPrefix.{GuidPrefix}
use Rattle.rtps_wire.specs.declared.acknack.AckNack.{AckNack as AckNackBody}
use Rattle.rtps_wire.specs.declared.heartbeat.Heartbeat.{Heartbeat as HeartbeatBody}
use Rattle.rtps_wire.specs.declared.submessage.Submessage.TheVariants.{Heartbeat, AckNack}
use Rattle.rtps_reader.specs.Tracked.{Tracked}
use Rattle.dds_base.specs.declared.endpoint.Endpoint.{Endpoint}
use Rattle.dds_protocol.specs.declared.event.Packet.{Packet}
use Rattle.dds_machine.specs.declared.event.WorldEvent.{WorldEvent}
use Rattle.dds_machine.specs.declared.reply.Reply.{Reply}
use Rattle.dds_machine.specs.Numbered.{HasNumber}
use Rattle.dds_machine.specs.Part.{heartbeats_used}
use Rattle.dds_protocol.specs.Claims.{Receiver, StandsIn, IsWriter, IsToWriter}
use Rattle.dds_protocol.specs.Dues.{IsPartOf}
use Rattle.dds_machine.specs.Machine.{AllTests, writer_at}
use Rattle.dds_protocol.specs.World.{WorldState, peer_at, machine_of}
use Rattle.dds_protocol.specs.Opening.{opening_world}
use Rattle.dds_protocol.specs.Rules.{RuledStep}
use Rattle.dds_protocol.specs.Roster.{IsRoster, Roster, roster_of}

-- a HEARTBEAT of the writer with this count stands in the packet
pub record HasHeartbeat (roster : Roster) (bytes : List ℕ) (writer : Endpoint) (count : ℤ) : Type 0 where
  pub own : GuidPrefix
  pub at : Receiver
  pub heartbeat : HeartbeatBody
  pub there : StandsIn bytes own at (Heartbeat heartbeat)
  pub from : IsWriter roster at.source_guid_prefix heartbeat.writer_id writer
  pub same_count : heartbeat.count ≡ count

-- an ACKNACK of the reader to the writer with this count stands in the packet
pub record HasAckNack (roster : Roster) (bytes : List ℕ) (writer reader : Endpoint) (count : ℤ) : Type 0 where
  pub own : GuidPrefix
  pub at : Receiver
  pub acknack : AckNackBody
  pub there : StandsIn bytes own at (AckNack acknack)
  pub is_to : IsToWriter roster own at acknack.reader_id acknack.writer_id writer reader
  pub same_count : acknack.count ≡ count

-- how many HEARTBEAT counts a writer has used
abbrev pub heartbeats_used_at : WorldState → Endpoint → ℕ
heartbeats_used_at world writer = heartbeats_used (writer_at (machine_of world) writer)

-- what a reader knows of a writer
abbrev pub tracked_at : WorldState → Endpoint → Endpoint → Tracked
tracked_at world writer reader = (peer_at world reader.peer).known.tracked writer reader.number

-- how many ACKNACK counts a reader has used for a writer
abbrev pub acknacks_used_at : WorldState → Endpoint → Endpoint → ℕ
acknacks_used_at world writer reader = (tracked_at world writer reader).acknacks

-- each count that was sent, or taken, is one that its sender has used; and the peers are those of the roster
pub record HasUsedCounts (roster : Roster) (world : WorldState) : Type 0 where
  pub of_roster : (peer : ℕ) → HasNumber world.peers peer → IsPartOf roster peer (peer_at world peer).part
  -- of a HEARTBEAT in a packet that was sent
  pub heartbeat_sent : (packet : Packet) (writer : Endpoint) (count : ℤ) → Contains world.sent packet
      → HasHeartbeat roster packet.bytes writer count → count ≤ℤ pos (heartbeats_used_at world writer)
  -- of an ACKNACK in a packet that was sent
  pub acknack_sent : (packet : Packet) (writer reader : Endpoint) (count : ℤ) → Contains world.sent packet
      → HasAckNack roster packet.bytes writer reader count → count ≤ℤ pos (acknacks_used_at world writer reader)
  -- of the last HEARTBEAT that a reader took of a writer
  pub heartbeat_taken : (writer reader : Endpoint) (count : ℤ) → (tracked_at world writer reader).count ≡ Some count
      → count ≤ℤ pos (heartbeats_used_at world writer)
  -- of the last ACKNACK that a writer took of a reader
  pub acknack_taken : (writer reader : Endpoint) (count : ℤ)
      → ((peer_at world writer.peer).known.answered writer.number reader).count ≡ Some count
      → count ≤ℤ pos (acknacks_used_at world writer reader)

-- so it is at the opening of every configuration
abbrev pub OpensUsed : Type 0
OpensUsed = (config : Config) → HasUsedCounts (roster_of config) (opening_world config)

-- an event of a network by the rules leaves it so, in a roster
abbrev pub StepsUsed : Type 0
StepsUsed = (roster : Roster) (tests : AllTests) (old : WorldState) (event : WorldEvent) (reply : Reply) (lost : ℕ)
    (new : WorldState) → IsRoster roster → HasUsedCounts roster old
    → RuledStep roster tests old event reply lost new → HasUsedCounts roster new
