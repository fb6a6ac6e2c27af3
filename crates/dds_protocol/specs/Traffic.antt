-- What is sent at an event, as far as the machine without packets can say.
--
-- RTPS 2.5, 8.4.7 (StatefulWriter), 8.4.9 and 8.4.12.
use Rattle.std.specs.Prelude.{◌≡◌, ◌≢◌, ℕ, ◌+◌, ◌-◌, ◌^◌, List, [], ◌++◌, length, min, Contains, AllPairs}
use Rattle.dds_base.specs.declared.change.Change.{Change}
use Rattle.dds_protocol.specs.Roster.{Roster}
use Rattle.dds_base.specs.Written.{Changed, Asserted}
use Rattle.dds_base.specs.declared.endpoint.Endpoint.{Endpoint}
use Rattle.dds_machine.specs.declared.event.WorldEvent.{WorldEvent}
use Rattle.dds_machine.specs.declared.event.WorldEvent.TheVariants as world
use Rattle.dds_protocol.specs.declared.event.Packet.{Packet}
use Rattle.dds_machine.specs.declared.reply.Reply.{Reply}
use Rattle.dds_machine.specs.declared.reply.Reply.TheVariants.{Done, Reported}
use Rattle.dds_machine.specs.Part.{peers_of, writer_changes}
use Rattle.dds_machine.specs.Calls.{Effect, writes, effect_of}
use Rattle.dds_protocol.specs.Claims.{ChangeIs, Claims}
use Rattle.dds_machine.specs.Machine.{Machine, part_at, writer_at}
use Rattle.dds_protocol.specs.Contact.{Contact}
use Rattle.dds_protocol.specs.DueMessages.{Due, AreSent, assertions_due, changes_due, heartbeats_due}

-- the packets that were sent, and how many found no memory, which stays at its greatest value
pub record Traffic : Type 0 where
  pub sent : List Packet
  pub unsent : ℕ

-- no packet was sent
abbrev pub no_traffic : Traffic
no_traffic = record { sent = []; unsent = 0 }

-- A change of a writer is announced: each peer with a matched reader is sent one packet, in its one written form, in
-- which the change is for each such reader, or the packet is counted as unsent.
pub record Announced (roster : Roster) (old : Traffic) (writer : Endpoint) (readers : List Endpoint) (number : ℕ)
    (change : Change) (new : Traffic) : Type 0 where
  pub packets : List Packet
  pub sent : new.sent ≡ old.sent ++ packets
  pub to_peers : (packet : Packet) → Contains packets packet → Contains (peers_of readers) packet.to
  pub says : (packet : Packet) (reader : Endpoint) → Contains packets packet → reader.peer ≡ packet.to
      → Contains readers reader → Claims roster packet.bytes (ChangeIs writer reader number change)
  pub different : AllPairs (λ (a b : Packet). a.to ≢ b.to) packets
  pub lost : ℕ
  pub counted : length packets + lost ≡ length (peers_of readers)
  pub are_sent : AreSent (changes_due roster writer readers number change) packets lost
  pub unsent : new.unsent ≡ min (old.unsent + lost) (2 ^ 64 - 1)

-- Of the messages that are due some are sent, in their order, each in its one written form; the others found no memory,
-- and are counted.
pub record SendsDues (dues : List Due) (old new : Traffic) : Type 0 where
  pub packets : List Packet
  pub sent : new.sent ≡ old.sent ++ packets
  pub lost : ℕ
  pub are_sent : AreSent dues packets lost
  pub unsent : new.unsent ≡ min (old.unsent + lost) (2 ^ 64 - 1)

-- what a call with this effect sends: a change is announced, with the next number, and an assertion told; else nothing
-- is sent
abbrev pub SendsOf : Roster → Traffic → Machine → ℕ → Effect → Traffic → Type 0
SendsOf roster old m peer (writes writer (Changed change)) new =
    Announced roster old (record { peer = peer; number = writer })
    (writer_at m (record { peer = peer; number = writer })).matched
    (length (writer_changes (writer_at m (record { peer = peer; number = writer }))) + 1) change new
SendsOf roster old m peer (writes writer (Asserted moment)) new =
    (contacts : Endpoint → Contact)
    × SendsDues (assertions_due roster contacts (record { peer = peer; number = writer })
    (writer_at m (record { peer = peer; number = writer }))) old new
SendsOf roster old m peer other new = new ≡ old

-- What is sent at an event: an accepted change is announced, and an assertion is told; a tick that is done sends the
-- HEARTBEATs that are due at the peer, whichever readers ask for one, or are silent, and a delivery the ACKNACKs and
-- the answers that are then due there, of which the machine without packets does not know; another call, places that
-- are tried again, and what is refused send nothing, and lose nothing.
abbrev pub Sends : Roster → Traffic → Machine → WorldEvent → Reply → Traffic → Type 0
Sends roster old m (world.Call peer call) reply new =
    SendsOf roster old m peer (effect_of (part_at m peer) call reply) new
Sends roster old m (world.Tick peer now) Done new =
    (contacts : ℕ → Endpoint → Contact) × SendsDues (heartbeats_due roster contacts peer (part_at m peer)) old new
Sends roster old m (world.Tick peer now) reply new = new ≡ old
Sends roster old m (world.Deliver peer packet) (Reported report) new = (dues : List Due) × SendsDues dues old new
Sends roster old m (world.Deliver peer packet) reply new = new ≡ old
Sends roster old m (world.Resume peer reader) reply new = new ≡ old
