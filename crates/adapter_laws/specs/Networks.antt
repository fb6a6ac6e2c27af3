-- Networks whose packets go through an adapter at each end (RTPS 2.5, clause 10: SerializedPayload).
use Rattle.std.specs.Prelude.{◌≡◌, ◌⊎◌, ◌≤◌, ℕ, List, length, Contains}
use Rattle.std.specs.List.{AllByRecursion}
use Rattle.dds_base.specs.declared.config.Config.{Config}
use Rattle.rtps_wire.specs.declared.message.Message.{Message}
use Rattle.rtps_wire.specs.Messages.{IsWritable, spelling_of}
use Rattle.rtps_wire.specs.Names.{max_message}
use Rattle.rtps_adapter.specs.declared.direction.Direction.TheVariants.{Inward, Outward}
use Rattle.rtps_adapter.specs.declared.direction.Way.TheVariants.{Filling}
use Rattle.rtps_adapter.specs.declared.kinds.WriterKind.{WriterKind}
use Rattle.rtps_adapter.specs.Adapting.{Adapts, Makes}
use Rattle.rtps_adapter.specs.ComesBack.{Fits, IsShort, IsWithin}
use Rattle.dds_machine.specs.declared.event.WorldEvent.{WorldEvent}
use Rattle.dds_machine.specs.declared.reply.Reply.{Reply}
use Rattle.dds_machine.specs.Machine.{AllTests}
use Rattle.dds_protocol.specs.declared.event.Packet.{Packet}
use Rattle.dds_protocol.specs.Opening.{opening_world}
use Rattle.dds_protocol.specs.Roster.{Roster}
use Rattle.dds_protocol.specs.Rules.{RuledRun}
use Rattle.dds_protocol.specs.World.{WorldState}

-- the packet is the written form of this message
pub record IsWrittenAs (packet : Packet) (m : Message) : Type 0 where
  pub writable : IsWritable m
  pub bytes : packet.bytes ≡ spelling_of m

-- What an adapter hands on of this message on its way out, which is no longer than a message may be, one with the same
-- table turns back into the packet as it was; with GAPs for numbers that can't be read too, where no value is longer than
-- the table says.
abbrev pub PassesAdapters : List WriterKind → Message → Packet → Type 0
PassesAdapters kinds m packet = (out back : List ℕ) → Adapts Outward kinds packet.bytes out
    → length out ≤ max_message
    → (Adapts Inward kinds out back
    ⊎ (AllByRecursion (IsWithin kinds m.prefix) m.submessages × Makes Filling kinds out back)) → back ≡ packet.bytes

-- It gets no longer on its way out, so that it is handed on.
abbrev pub StaysAMessage : List WriterKind → Packet → Type 0
StaysAMessage kinds packet = (out : List ℕ) → Adapts Outward kinds packet.bytes out → length out ≤ length packet.bytes

-- Each packet that a network has sent since its opening is the written form of a message, and passes adapters where each
-- change of the message is one of the type that its topic carries; it gets no longer where no list of parameters says a
-- key alone.
abbrev pub AdaptersChangeNothing : Type 0
AdaptersChangeNothing = (kinds : List WriterKind) (config : Config) (roster : Roster) (tests : AllTests) (events : List WorldEvent)
    (replies : List Reply) (world : WorldState) (unsent : ℕ)
    → RuledRun roster tests (opening_world config) 0 events replies world unsent
    → (packet : Packet) → Contains world.sent packet
    → (m : Message) × IsWrittenAs packet m
    × (AllByRecursion (Fits kinds m.prefix) m.submessages
    → PassesAdapters kinds m packet
    × (AllByRecursion (IsShort kinds m.prefix) m.submessages → StaysAMessage kinds packet))
