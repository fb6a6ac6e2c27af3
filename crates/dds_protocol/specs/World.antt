-- A network: peers, and all packets that were ever sent, of which an event delivers any one, at any peer.
--
-- This network is this project's own: it loses, repeats and reorders packets at will, which reliable writers and
-- readers are to bear (RTPS 2.5, 8.4.9, 8.4.12).
use Rattle.std.specs.Prelude.{◌≡◌, ◌⊎◌, ℕ, ◌-◌, ◌<◌, ◌≤◌, true, Some, List, ◌++◌, length, slice_get, map, Contains}
use Rattle.dds_base.specs.declared.code.Code.TheVariants.{BadParameter}
use Rattle.dds_protocol.specs.Roster.{Roster}
use Rattle.dds_base.specs.declared.guid.EntityId.{EntityId}
use Rattle.dds_base.specs.Kept.{change_at, is_dropped}
use Rattle.dds_base.specs.Matched.{is_reliable}
use Rattle.dds_base.specs.declared.endpoint.Endpoint.{Endpoint}
use Rattle.dds_protocol.specs.declared.event.Event.{Event}
use Rattle.dds_protocol.specs.declared.event.Event.TheVariants as event
use Rattle.dds_machine.specs.declared.event.WorldEvent.{WorldEvent}
use Rattle.dds_machine.specs.declared.event.WorldEvent.TheVariants as world
use Rattle.dds_protocol.specs.declared.event.Output.{Output}
use Rattle.dds_protocol.specs.declared.event.Packet.{Packet}
use Rattle.dds_machine.specs.declared.reply.Reply.{Reply}
use Rattle.dds_machine.specs.declared.reply.Reply.TheVariants.{Refused}
use Rattle.dds_machine.specs.Numbered.{numbered, with_numbered, HasNumber}
use Rattle.dds_machine.specs.Part.{own_reader, acknowledged_of, writer_changes, history_of, is_assertion, owed_from, IsBelow, IsAtMost, IsCovered}
use Rattle.dds_machine.specs.Watching.{Tests}
use Rattle.dds_protocol.specs.Claims.{Claim, ChangeIs, MayPass, PlaceReached, Asserts, Claims}
use Rattle.dds_protocol.specs.Peer.{Peer, Delivery, PeerStep, no_peer}
use Rattle.dds_machine.specs.Machine.{Machine, AllTests, part_at, writer_at, place_at}

-- the peers, which are numbered from 1, and the packets in the order in which they were sent
pub record WorldState : Type 0 where
  pub peers : List Peer
  pub sent : List Packet

-- the peer of this number; one without writers and readers where there is none
abbrev pub peer_at : WorldState → ℕ → Peer
peer_at world peer = numbered world.peers peer no_peer

-- the machine that the peers are the parts of
abbrev pub machine_of : WorldState → Machine
machine_of world = record { parts = map (λ (p : Peer). p.part) world.peers }

-- a peer steps, and of its packets these are sent
pub record PeerSteps (roster : Roster) (tests : Tests) (old : WorldState) (peer : ℕ) (event : Event) (reply : Reply)
    (new : WorldState) : Type 0 where
  pub within : HasNumber old.peers peer
  pub output : Output
  pub replies : output.reply ≡ reply
  pub after : Peer
  pub step : PeerStep roster tests (peer_at old peer) event output after
  pub posted : List Packet
  pub of_packets : (packet : Packet) → Contains posted packet → Contains output.packets packet
  pub changed : new ≡ record { peers = with_numbered old.peers peer after; sent = old.sent ++ posted }

-- nothing happens
pub record IsRefusedIn (old : WorldState) (reply : Reply) (new : WorldState) : Type 0 where
  pub is_refused : reply ≡ Refused BadParameter
  pub after : new ≡ old

-- one event of the network
abbrev pub WorldStep : Roster → AllTests → WorldState → WorldEvent → Reply → WorldState → Type 0
WorldStep roster tests old (world.Call peer call) reply new =
    PeerSteps roster (tests peer) old peer (event.Call call) reply new
    ⊎ ((HasNumber old.peers peer → ⊥) × IsRefusedIn old reply new)
WorldStep roster tests old (world.Tick peer now) reply new =
    PeerSteps roster (tests peer) old peer (event.Tick now) reply new
    ⊎ ((HasNumber old.peers peer → ⊥) × IsRefusedIn old reply new)
WorldStep roster tests old (world.Deliver peer number) reply new =
    ((packet : Packet) × (1 ≤ number) × (slice_get old.sent (number - 1) ≡ Some packet)
    × PeerSteps roster (tests peer) old peer (event.Deliver packet.bytes) reply new)
    ⊎ (((number ≡ 0) ⊎ (length old.sent < number) ⊎ (HasNumber old.peers peer → ⊥)) × IsRefusedIn old reply new)
WorldStep roster tests old (world.Resume peer reader) reply new =
    PeerSteps roster (tests peer) old peer (event.Resume reader) reply new
    ⊎ ((HasNumber old.peers peer → ⊥) × IsRefusedIn old reply new)

-- the claim is true of the lists and places
abbrev pub Holds : Machine → Claim → Type 0
Holds m (ChangeIs writer reader number change) = change_at (writer_changes (writer_at m writer)) number ≡ Some change
Holds m (MayPass writer reader number) =
    (is_dropped (history_of (writer_at m writer)) number ≡ true)
    ⊎ (number < owed_from (writer_at m writer) reader) ⊎ IsBelow number (place_at m reader writer)
Holds m (PlaceReached writer reader base) = IsAtMost base (place_at m reader writer)
Holds m (Asserts writer reader count) = is_assertion (writer_at m writer) count ≡ true

-- all packets that were sent or delivered claim the truth, no reader has acknowledged more than it has or is not owed,
-- and each reader of the peers that are there is as reliable as the roster says
pub record Sound (roster : Roster) (world : WorldState) : Type 0 where
  pub number : (peer : ℕ) → HasNumber world.peers peer → (peer_at world peer).number ≡ peer
  pub sent : (packet : Packet) (claim : Claim) → Contains world.sent packet → Claims roster packet.bytes claim
      → Holds (machine_of world) claim
  pub delivered : (peer : ℕ) (delivery : Delivery) (claim : Claim) → Contains (peer_at world peer).delivered delivery
      → Claims roster delivery.packet claim → Holds (machine_of world) claim
  pub acknowledged : (writer reader : Endpoint)
      → IsCovered (acknowledged_of (writer_at (machine_of world) writer).readers reader)
      (owed_from (writer_at (machine_of world) writer) reader) (place_at (machine_of world) reader writer)
  pub policies : (reader : Endpoint) (entity : EntityId) → HasNumber world.peers reader.peer
      → roster.readers reader ≡ Some entity
      → is_reliable (own_reader (part_at (machine_of world) reader.peer) reader.number).qos.reliability
      ≡ roster.is_reliable reader
