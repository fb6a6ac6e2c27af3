-- What a delivery must move: a change that a packet claims for a reader, and that is the next one when the packet comes
-- to it, moves the reader's place.
--
-- RTPS 2.5, 8.3.4 (the message receiver), 8.4.12 (reliable StatefulReader).
use Rattle.std.specs.Prelude.{◌≡◌, ℕ, ◌-◌, ◌≤◌, List, Some, slice_get}
use Rattle.dds_protocol.specs.Roster.{Roster}
use Rattle.dds_machine.specs.declared.event.WorldEvent.{WorldEvent}
use Rattle.dds_machine.specs.declared.event.WorldEvent.TheVariants as world
use Rattle.dds_protocol.specs.declared.event.Packet.{Packet}
use Rattle.dds_machine.specs.declared.reply.Reply.{Reply}
use Rattle.dds_machine.specs.declared.reply.Reply.TheVariants.{Reported}
use Rattle.dds_machine.specs.Numbered.{HasNumber}
use Rattle.dds_machine.specs.Part.{Part}
use Rattle.dds_protocol.specs.Receipt.{Receives}
use Rattle.dds_machine.specs.Machine.{Machine, part_at, grounds_of}

-- the report is of a packet whose submessages were taken up in turn, by a peer of the machine
abbrev pub ReceivesIn : Roster → Machine → ℕ → List ℕ → Reply → Type 0
ReceivesIn roster m peer bytes (Reported report) =
    (after : Part) × Receives roster (λ index. grounds_of m peer) peer bytes (part_at m peer) report after
ReceivesIn roster m peer bytes reply = ⊥

-- a delivered packet is taken up, submessage by submessage
abbrev pub Progresses : Roster → List Packet → Machine → WorldEvent → Reply → Type 0
Progresses roster sent m (world.Deliver peer k) reply =
    (packet : Packet) → 1 ≤ k → slice_get sent (k - 1) ≡ Some packet → HasNumber m.parts peer
    → ReceivesIn roster m peer packet.bytes reply
Progresses roster sent m event reply = Unit {0}
