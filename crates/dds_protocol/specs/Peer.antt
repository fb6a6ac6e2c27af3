-- One peer: what it keeps to, its part of the machine, and what was delivered to it. Its step rests on what delivered
-- packets claim, and what it sends claims only what is true of its own lists and places.
--
-- RTPS 2.5, 8.2 (Participant), 8.4 (behaviour). That packets make claims, on which a step rests, is a notion of
-- this project.
use Rattle.std.specs.Prelude.{◌≡◌, ◌⊎◌, ℕ, ◌<◌, ◌&&◌, Bool, true, false, List, [], ◌∷◌, map, Option, Some, None, ℤ, ◌<ℤ◌, Contains}
use Rattle.dds_protocol.specs.Roster.{Roster}
use Rattle.dds_base.specs.declared.guid.GuidPrefix.{GuidPrefix}
use Rattle.dds_base.specs.Kept.{change_at, is_dropped}
use Rattle.dds_base.specs.Matched.{is_reliable}
use Rattle.rtps_wire.specs.declared.heartbeat.Heartbeat.{Heartbeat as HeartbeatBody}
use Rattle.rtps_wire.specs.declared.submessage.Submessage.TheVariants.{Heartbeat}
use Rattle.dds_base.specs.declared.endpoint.Endpoint.{Endpoint}
use Rattle.dds_protocol.specs.declared.event.Event.{Event}
use Rattle.dds_protocol.specs.declared.event.Event.TheVariants as event
use Rattle.dds_protocol.specs.declared.event.Output.{Output}
use Rattle.dds_protocol.specs.declared.event.Packet.{Packet}
use Rattle.dds_machine.specs.declared.reply.Reply.{Reply}
use Rattle.dds_machine.specs.declared.call.Call.{Call}
use Rattle.dds_machine.specs.declared.call.Call.TheVariants.{MatchReader, MeetReader}
use Rattle.dds_machine.specs.declared.reply.Reply.TheVariants.{Done, Reported}
use Rattle.dds_machine.specs.declared.reply.Report.{Report}
use Rattle.dds_machine.specs.Numbered.{numbered}
use Rattle.dds_machine.specs.Part.{WriterProxy, how_of, is_attached, Part, no_part, own_writer, own_proxies, acknowledged_of, place_of, writer_changes, history_of, is_assertion, owed_from, IsBelow, IsAtMost}
use Rattle.dds_machine.specs.Moves.{Grounds, ResumeStep}
use Rattle.dds_machine.specs.Matching.{knows_reliable, meets_reliable}
use Rattle.dds_machine.specs.Ticks.{TicksAsked}
use Rattle.dds_machine.specs.Calls.{CallStep}
use Rattle.dds_machine.specs.Watching.{Tests}
use Rattle.dds_protocol.specs.Claims.{Receiver, StandsIn, IsToReader, Claim, ChangeIs, MayPass, PlaceReached, Asserts, Claims, Claimed}
use Rattle.dds_protocol.specs.Receipt.{Receives}
use Rattle.dds_protocol.specs.DueMessages.{was_asked}
use Rattle.dds_protocol.specs.Protocol.{Known, State, asked_no_more, knows_nothing, with_answered}

-- a packet that was delivered, the rows of the peer's readers as it found them, and what it did
pub record Delivery : Type 0 where
  pub packet : List ℕ
  pub rows : List (List WriterProxy)
  pub report : Report

-- a peer, by its number, with its part, what it knows beside that, and the packets that were delivered to it, the
-- newest first
pub record Peer : Type 0 where
  pub number : ℕ
  pub part : Part
  pub known : Known
  pub delivered : List Delivery

-- in the place of a peer that is not there: its number is 0
abbrev pub no_peer : Peer
no_peer = record { number = 0; part = no_part; known = knows_nothing; delivered = [] }

-- its part, and what it knows
abbrev pub state_of : Peer → State
state_of p = record { part = p.part; known = p.known }

-- the octets of each packet that was delivered
abbrev pub packets_of : List Delivery → List (List ℕ)
packets_of ds = map (λ (d : Delivery). d.packet) ds

-- the index lies before that of a submessage which found no memory, if there is one
abbrev pub IsBefore : ℕ → Option ℕ → Type 0
IsBefore index None = Unit {0}
IsBefore index (Some refused) = index < refused

-- a HEARTBEAT of this count from the writer was applied at the reader: it stands in the packet, before what found no
-- memory, and the two were matched
pub record IsApplied (roster : Roster) (delivery : Delivery) (writer reader : Endpoint) (count : ℤ) : Type 0 where
  pub own : GuidPrefix
  pub at : Receiver
  pub heartbeat : HeartbeatBody
  pub there : StandsIn delivery.packet own at (Heartbeat heartbeat)
  pub before : IsBefore there.index delivery.report.refused
  pub is_to : IsToReader roster own at heartbeat.reader_id heartbeat.writer_id writer reader
  pub same_count : heartbeat.count ≡ count
  pub met : is_attached (how_of (numbered delivery.rows reader.number []) writer) ≡ true

-- the count is above those of all HEARTBEATs of the writer that were applied at the reader by these deliveries
abbrev pub IsNewest : Roster → List Delivery → Endpoint → Endpoint → ℤ → Type 0
IsNewest roster deliveries writer reader count =
    (delivery : Delivery) (earlier : ℤ) → Contains deliveries delivery → IsApplied roster delivery writer reader earlier
    → earlier <ℤ count

-- the packet, which found these rows, as far as the submessage of this index
abbrev pub delivered_to : List ℕ → List (List WriterProxy) → ℕ → Delivery
delivered_to packet rows index =
    record { packet = packet; rows = rows; report = record { moves = []; refused = Some index } }

-- what these packets claim to the peer of this number; that nobody is heard by them
abbrev pub claimed_by : Roster → List (List ℕ) → ℕ → Grounds
claimed_by roster packets peer = record {
  is_change = λ writer reader number change.
      Claimed roster packets (ChangeIs writer (record { peer = peer; number = reader }) number change);
  may_pass = λ writer reader number.
      Claimed roster packets (MayPass writer (record { peer = peer; number = reader }) number);
  has_place = λ writer reader base.
      Claimed roster packets (PlaceReached (record { peer = peer; number = writer }) reader base);
  may_hear = λ writer reader count. ⊥;
}

-- what a packet, which found these rows, claims to the peer of this number when it comes to the submessage of this
-- index, with what was delivered before
abbrev pub claimed : Roster → List Delivery → List ℕ → List (List WriterProxy) → ℕ → ℕ → Grounds
claimed roster before packet rows peer index = record (claimed_by roster (packet ∷ packets_of before) peer) {
  may_hear = λ writer reader count.
      Claimed roster (packet ∷ packets_of before) (Asserts writer (record { peer = peer; number = reader }) count)
      × IsNewest roster (delivered_to packet rows index ∷ before) writer (record { peer = peer; number = reader }) count;
}

-- the claim is true of the peer's own lists and places
abbrev pub IsTrueAt : ℕ → Part → Claim → Type 0
IsTrueAt peer part (ChangeIs writer reader number change) =
    (writer.peer ≡ peer) × (change_at (writer_changes (own_writer part writer.number)) number ≡ Some change)
IsTrueAt peer part (MayPass writer reader number) =
    (writer.peer ≡ peer) × ((is_dropped (history_of (own_writer part writer.number)) number ≡ true)
    ⊎ (number < owed_from (own_writer part writer.number) reader)
    ⊎ IsBelow number (acknowledged_of (own_writer part writer.number).readers reader))
IsTrueAt peer part (PlaceReached writer reader base) =
    (reader.peer ≡ peer) × IsAtMost base (place_of (own_proxies part reader.number) writer)
IsTrueAt peer part (Asserts writer reader count) =
    (writer.peer ≡ peer) × (is_assertion (own_writer part writer.number) count ≡ true)

-- an event of a peer: a delivery rests on the claims of this and of earlier packets, and places that are tried again on
-- those of earlier ones
abbrev pub EventStep : Roster → Tests → Peer → Event → Reply → Peer → Type 0
EventStep roster tests old (event.Call call) reply new =
    CallStep tests old.part call reply new.part × (new.delivered ≡ old.delivered)
EventStep roster tests old (event.Tick now) reply new =
    TicksAsked (was_asked old.known.answered old.part) old.part now reply new.part
    × (new.delivered ≡ old.delivered)
EventStep roster tests old (event.Deliver packet) (Reported report) new =
    Receives roster (claimed roster old.delivered packet old.part.rtps.readers old.number) old.number packet old.part
    report new.part
    × (new.delivered ≡ record { packet = packet; rows = old.part.rtps.readers; report = report } ∷ old.delivered)
EventStep roster tests old (event.Deliver packet) reply new = ⊥
EventStep roster tests old (event.Resume reader) reply new =
    ResumeStep (claimed_by roster (packets_of old.delivered) old.number) old.part reader reply new.part
    × (new.delivered ≡ old.delivered)

-- what is known once a writer was told of a reader: it asks for nothing, and is silent or not
abbrev pub known_once_told : Known → ℕ → Endpoint → Bool → Known
known_once_told known writer reader silent =
    with_answered known writer reader (record (known.answered writer reader) { asks = false; silent = silent })

-- what a peer knows once a call was answered so: where a reader that a writer is told of is a reliable one, and is
-- greeted, it is silent
abbrev pub known_after : Peer → Call → Reply → Known
known_after old (MatchReader writer reader greeted) Done =
    known_once_told old.known writer reader (greeted && knows_reliable (own_writer old.part writer) reader)
known_after old (MeetReader writer far greeted) Done = known_once_told old.known writer far.endpoint
    (greeted && meets_reliable (own_writer old.part writer) far.endpoint (is_reliable far.requested.reliability))
known_after old call reply = old.known

-- what a peer knows changes by deliveries, and where places are tried again; but a reader that was asking for a
-- HEARTBEAT asks no more once a tick has told it, and its writer may be told of it anew
abbrev pub Knows : Peer → Event → Reply → Peer → Type 0
Knows old (event.Deliver packet) reply new = Unit {0}
Knows old (event.Resume reader) (Reported report) new = Unit {0}
Knows old (event.Call call) reply new = new.known ≡ known_after old call reply
Knows old (event.Tick now) Done new = new.known ≡ asked_no_more old.known
Knows old other reply new = new.known ≡ old.known

-- one step of a peer, and what it sends is true
pub record PeerStep (roster : Roster) (tests : Tests) (old : Peer) (event : Event) (output : Output)
    (new : Peer) : Type 0 where
  pub same_number : new.number ≡ old.number
  pub knows : Knows old event output.reply new
  pub step : EventStep roster tests old event output.reply new
  pub sent : (packet : Packet) (claim : Claim) → Contains output.packets packet → Claims roster packet.bytes claim
      → IsTrueAt new.number new.part claim
