-- What a peer sends.
--
-- RTPS 2.5, 8.4.9 (the behaviour of a reliable StatefulWriter), 8.3.7 (what stands in a message).
use Rattle.std.specs.Prelude.{◌≡◌, ◌≢◌, ℕ, ◌+◌, length, Contains, AllPairs, List, []}
use Rattle.dds_base.specs.declared.change.Change.{Change}
use Rattle.dds_protocol.specs.Roster.{Roster}
use Rattle.dds_base.specs.Written.{Changed, Asserted}
use Rattle.dds_base.specs.declared.endpoint.Endpoint.{Endpoint}
use Rattle.dds_protocol.specs.declared.event.Output.{Output}
use Rattle.dds_protocol.specs.declared.event.Packet.{Packet}
use Rattle.dds_machine.specs.Part.{own_writer, writer_changes}
use Rattle.dds_machine.specs.Calls.{Effect, writes}
use Rattle.dds_protocol.specs.Claims.{ChangeIs, Claims}
use Rattle.dds_protocol.specs.Peer.{Peer}
use Rattle.dds_machine.specs.Part.{peers_of}
use Rattle.dds_machine.specs.declared.reply.Reply.{Reply}
use Rattle.dds_machine.specs.declared.reply.Reply.TheVariants.{Done}
use Rattle.dds_protocol.specs.DueMessages.{Due, AreSent, changes_due, heartbeats_due, assertions_due}

-- nothing is sent, and nothing found no memory
pub record SendsNothing (output : Output) : Type 0 where
  pub packets : output.packets ≡ []
  pub unsent : output.unsent ≡ 0

-- A change of a writer is announced: each peer with a matched reader gets one packet, in its one written form, in which
-- the change is for each such reader, or the packet is counted as unsent.
pub record SendsChange (roster : Roster) (writer : Endpoint) (readers : List Endpoint) (number : ℕ) (change : Change)
    (output : Output) : Type 0 where
  pub counted : length output.packets + output.unsent ≡ length (peers_of readers)
  pub are_sent : AreSent (changes_due roster writer readers number change) output.packets output.unsent
  pub to_peers : (packet : Packet) → Contains output.packets packet → Contains (peers_of readers) packet.to
  pub says : (packet : Packet) (reader : Endpoint) → Contains output.packets packet → reader.peer ≡ packet.to
      → Contains readers reader → Claims roster packet.bytes (ChangeIs writer reader number change)
  pub different : AllPairs (λ (a b : Packet). a.to ≢ b.to) output.packets

-- what is sent for what a call enters
abbrev pub SendsFor : Roster → Peer → Effect → Output → Type 0
SendsFor roster peer (writes writer (Changed change)) output =
    SendsChange roster (record { peer = peer.number; number = writer }) (own_writer peer.part writer).matched
    (length (writer_changes (own_writer peer.part writer)) + 1) change output
SendsFor roster peer (writes writer (Asserted moment)) output =
    AreSent (assertions_due roster (peer.known.answered writer) (record { peer = peer.number; number = writer })
    (own_writer peer.part writer)) output.packets output.unsent
SendsFor roster peer other output = SendsNothing output

-- what is due at a tick that this answers: the HEARTBEATs of the peer's writers, and nothing where it is refused
abbrev pub due_at_tick : Roster → Peer → Reply → List Due
due_at_tick roster peer Done = heartbeats_due roster peer.known.answered peer.number peer.part
due_at_tick roster peer reply = []
