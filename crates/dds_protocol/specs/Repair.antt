-- One round of repair of a writer and a reader that it is matched with, in a network by the rules: a tick, the writer's
-- HEARTBEAT, the reader's ACKNACK, and the answers to that, each delivered once. After it the reader has caught up.
--
-- RTPS 2.5, 8.4.9 (reliable StatefulWriter), 8.4.12 (reliable StatefulReader).
use Rattle.std.specs.Prelude.{◌≡◌, ◌⊎◌, ℕ, ◌+◌, ◌-◌, ◌<◌, ◌≤◌, if◌then◌else◌, min, nat_le, true, false, List, [], ◌∷◌, length, slice_get, None, Some, ℤ, Contains}
use Rattle.dds_base.specs.declared.change.Change.{Change}
use Rattle.dds_base.specs.declared.guid.EntityId.{EntityId}
use Rattle.dds_base.specs.Bounds.{max_count, max_sn, usual_value, window_width}
use Rattle.dds_base.specs.Places.{coming}
use Rattle.dds_base.specs.Presence.{has_room}
use Rattle.rtps_reader.specs.Tracked.{Held}
use Rattle.dds_protocol.specs.Noticing.{world_ended}
use Rattle.dds_base.specs.declared.endpoint.Endpoint.{Endpoint}
use Rattle.dds_protocol.specs.declared.event.Packet.{Packet}
use Rattle.dds_machine.specs.declared.event.WorldEvent.TheVariants.{Tick, Deliver}
use Rattle.dds_machine.specs.declared.reply.Report.{Report}
use Rattle.dds_machine.specs.declared.reply.Reply.TheVariants.{Done, Reported}
use Rattle.dds_machine.specs.Numbered.{HasNumber}
use Rattle.dds_machine.specs.Part.{how_of, is_attached, Begun, own_proxies, own_reader, acknowledged_of, publication_among, writer_changes}
use Rattle.dds_machine.specs.Moves.{match_of, position_at}
use Rattle.dds_protocol.specs.Claims.{IsWriter, IsReader}
use Rattle.dds_machine.specs.Machine.{AllTests, writer_at, place_at}
use Rattle.dds_protocol.specs.World.{WorldState, peer_at, machine_of, Sound}
use Rattle.dds_protocol.specs.Bounds.{IsBounded}
use Rattle.dds_protocol.specs.Fresh.{HasHeartbeat, HasAckNack, HasUsedCounts, heartbeats_used_at, acknacks_used_at, tracked_at}
use Rattle.dds_protocol.specs.Rules.{RuledStep}
use Rattle.dds_protocol.specs.Roster.{IsRoster, Roster}

-- a packet that was sent is delivered at a peer, by the rules, and memory is found for all of it
pub record Delivers (roster : Roster) (tests : AllTests) (old : WorldState) (peer : ℕ) (packet : Packet) (lost : ℕ)
    (new : WorldState) : Type 0 where
  pub number : ℕ
  pub at : slice_get old.sent (number - 1) ≡ Some packet
  pub report : Report
  pub whole : report.refused ≡ None
  pub step : RuledStep roster tests old (Deliver peer number) (Reported report) lost new

-- packets are delivered at a peer in turn
abbrev pub DeliversAll : Roster → AllTests → WorldState → ℕ → List Packet → WorldState → Type 0
DeliversAll roster tests old peer [] new = new ≡ old
DeliversAll roster tests old peer (packet ∷ packets) new =
    (mid : WorldState) × (lost : ℕ) × (h : Delivers roster tests old peer packet lost mid)
    × DeliversAll roster tests (world_ended old (Deliver peer h.number) mid) peer packets new

-- A round begins: the writer's peer ticks, and a packet to the reader's peer with a HEARTBEAT of the writer that this
-- sent is delivered there.
pub record BeginsRound (roster : Roster) (tests : AllTests) (writer reader : Endpoint)
    (old heard : WorldState) : Type 0 where
  pub now : ℕ
  pub ticked : WorldState
  pub lost_beats : ℕ
  pub ticks : RuledStep roster tests old (Tick writer.peer now) Done lost_beats ticked
  pub beat : Packet
  pub beat_sent : Contains ticks.packets beat
  pub beat_to : beat.to ≡ reader.peer
  pub beat_count : ℤ
  pub beat_of : HasHeartbeat roster beat.bytes writer beat_count
  pub lost_asks : ℕ
  pub hears : Delivers roster tests (world_ended old (Tick writer.peer now) ticked) reader.peer beat lost_asks heard

-- the network once the writer's peer has ticked, at the end of that
abbrev pub ticked_in : {roster : Roster} {tests : AllTests} {writer reader : Endpoint} {old heard : WorldState}
    → BeginsRound roster tests writer reader old heard → WorldState
ticked_in {writer = writer} {old = old} begins = world_ended old (Tick writer.peer begins.now) begins.ticked

-- the network once the HEARTBEAT was heard, at the end of that
abbrev pub beat_in : {roster : Roster} {tests : AllTests} {writer reader : Endpoint} {old heard : WorldState}
    → BeginsRound roster tests writer reader old heard → WorldState
beat_in {reader = reader} {heard = heard} begins =
    world_ended (ticked_in begins) (Deliver reader.peer begins.hears.number) heard

-- It goes on: a packet with an ACKNACK of the reader to the writer that this sent is delivered at the writer's peer,
-- where no answer is lost.
pub record AsksInRound (roster : Roster) (tests : AllTests) (writer reader : Endpoint)
    (old asked : WorldState) : Type 0 where
  pub heard : WorldState
  pub begins : BeginsRound roster tests writer reader old heard
  pub ask : Packet
  pub ask_sent : Contains begins.hears.step.packets ask
  pub ask_count : ℤ
  pub ask_of : HasAckNack roster ask.bytes writer reader ask_count
  pub answers : Delivers roster tests (beat_in begins) writer.peer ask 0 asked

-- the network once the ACKNACK was taken, at the end of that
abbrev pub ask_in : {roster : Roster} {tests : AllTests} {writer reader : Endpoint} {old asked : WorldState}
    → AsksInRound roster tests writer reader old asked → WorldState
ask_in {writer = writer} {asked = asked} asks =
    world_ended (beat_in asks.begins) (Deliver writer.peer asks.answers.number) asked

-- A round: it goes on so, and the answers are delivered at the reader's peer, each to its end.
pub record IsRepairRound (roster : Roster) (tests : AllTests) (writer reader : Endpoint)
    (old new : WorldState) : Type 0 where
  pub asked : WorldState
  pub asks : AsksInRound roster tests writer reader old asked
  pub repairs : DeliversAll roster tests (ask_in asks) reader.peer asks.answers.step.packets new

-- the roster has the writer and the reader, which is a reliable one, and matched with it
pub record IsPair (roster : Roster) (writer reader : Endpoint) : Type 0 where
  pub writer_entity : EntityId
  pub is_writer : IsWriter roster (roster.prefix writer.peer) writer_entity writer
  pub reader_entity : EntityId
  pub is_reader : IsReader roster (roster.prefix reader.peer) reader_entity reader
  pub matched : roster.are_matched writer reader ≡ true
  pub reliable : roster.is_reliable reader ≡ true

-- the two are matched at both sides: the reader's place in the writer's list, which waits or has begun, and what the
-- writer has of the reader; and what the reader knows is of that place
pub record StandsAt (world : WorldState) (writer reader : Endpoint) (place acknowledged : ℕ) : Type 0 where
  pub here : HasNumber (peer_at world reader.peer).part.dds.readers reader.number
  pub place_is : place_at (machine_of world) reader writer ≡ Some place
  pub attached : is_attached (how_of (own_proxies (peer_at world reader.peer).part reader.number) writer) ≡ true
  pub known : (tracked_at world writer reader).place ≡ place
  pub acknowledged_is : acknowledged_of (writer_at (machine_of world) writer).readers reader ≡ Some acknowledged

-- the change that the reader holds at its place has no room there
pub record HoldsWithoutRoom (world : WorldState) (writer reader : Endpoint) (place : ℕ) : Type 0 where
  pub publication : ℕ
  pub handle : publication_among (own_proxies (peer_at world reader.peer).part reader.number) writer ≡ Some publication
  pub change : Change
  pub held : (tracked_at world writer reader).slot place ≡ Held change
  pub no_room : has_room (own_reader (peer_at world reader.peer).part reader.number).qos
      (own_reader (peer_at world reader.peer).part reader.number).happened
      (coming (match_of (peer_at world reader.peer).part reader.number publication)
      (position_at (peer_at world reader.peer).part reader.number place) change) ≡ false

-- The reader's place has begun, and has gone on by 256 numbers, or to the end of a list of so many, or to a change that
-- has no room; and the writer knows of all that the reader had.
pub record HasCaughtUp (world : WorldState) (writer reader : Endpoint) (before last : ℕ) : Type 0 where
  pub place : ℕ
  pub acknowledged : ℕ
  pub stands : StandsAt world writer reader place acknowledged
  pub begun : how_of (own_proxies (peer_at world reader.peer).part reader.number) writer ≡ Begun
  pub reached : (min (before + window_width) (last + 1) ≤ place) ⊎ HoldsWithoutRoom world writer reader place
  pub told : before ≤ acknowledged

-- so it is after each round of a reader that is not silent, in a network in which claims are true, counts are used, and
-- places are within the lists
abbrev pub PairCatchesUp : Type 0
PairCatchesUp = (roster : Roster) (tests : AllTests) (writer reader : Endpoint) (place acknowledged : ℕ)
    (old new : WorldState) → IsRoster roster → Sound roster old → HasUsedCounts roster old
    → IsBounded (machine_of old) → IsPair roster writer reader → StandsAt old writer reader place acknowledged
    → ((peer_at old writer.peer).known.answered writer.number reader).silent ≡ false
    → IsRepairRound roster tests writer reader old new
    → HasCaughtUp new writer reader place (length (writer_changes (writer_at (machine_of old) writer)))

-- one of these packets goes to this peer, and has a HEARTBEAT of the writer
pub record HasBeatTo (roster : Roster) (writer : Endpoint) (peer : ℕ) (packets : List Packet) : Type 0 where
  pub packet : Packet
  pub among : Contains packets packet
  pub to : packet.to ≡ peer
  pub count : ℤ
  pub has : HasHeartbeat roster packet.bytes writer count

-- a tick at which nothing is lost sends such a one to the peer of each reader that has not acknowledged all changes,
-- while there are counts left
abbrev pub BeatsAreSent : Type 0
BeatsAreSent = (roster : Roster) (tests : AllTests) (writer reader : Endpoint) (acknowledged now : ℕ)
    (old new : WorldState) → IsRoster roster → HasUsedCounts roster old
    → acknowledged_of (writer_at (machine_of old) writer).readers reader ≡ Some acknowledged
    → acknowledged ≤ length (writer_changes (writer_at (machine_of old) writer))
    → heartbeats_used_at old writer < max_count
    → (step : RuledStep roster tests old (Tick writer.peer now) Done 0 new)
    → HasBeatTo roster writer reader.peer step.packets

-- one of these packets goes to the writer's peer, and has an ACKNACK of the reader to the writer
pub record HasAskOf (roster : Roster) (writer reader : Endpoint) (packets : List Packet) : Type 0 where
  pub packet : Packet
  pub among : Contains packets packet
  pub to : packet.to ≡ writer.peer
  pub count : ℤ
  pub has : HasAckNack roster packet.bytes writer reader count

-- a HEARTBEAT that begins a round of a reader that has not acknowledged all changes is answered by an ACKNACK, which is
-- sent where nothing is lost, while there are counts left, and numbers
abbrev pub AsksAreSent : Type 0
AsksAreSent = (roster : Roster) (tests : AllTests) (writer reader : Endpoint) (place acknowledged : ℕ)
    (old heard : WorldState) → IsRoster roster → Sound roster old → HasUsedCounts roster old
    → IsBounded (machine_of old) → IsPair roster writer reader → StandsAt old writer reader place acknowledged
    → acknowledged ≤ length (writer_changes (writer_at (machine_of old) writer))
    → length (writer_changes (writer_at (machine_of old) writer)) < max_sn
    → acknacks_used_at old writer reader < max_count
    → (begins : BeginsRound roster tests writer reader old heard) → begins.lost_asks ≡ 0
    → HasAskOf roster writer reader begins.hears.step.packets

-- so many packets are enough for the answers of a writer whose values have at most so many octets: 32 where that is no
-- more than usual
abbrev pub packets_for : ℕ → ℕ
packets_for most = if nat_le most usual_value then 32 else 256

-- the answers of a round go in no more packets than are enough for the writer
abbrev pub AnswersAreFew : Type 0
AnswersAreFew = (roster : Roster) (tests : AllTests) (writer reader : Endpoint) (place acknowledged : ℕ)
    (old asked : WorldState) → IsRoster roster → Sound roster old → HasUsedCounts roster old
    → IsBounded (machine_of old) → IsPair roster writer reader → StandsAt old writer reader place acknowledged
    → (asks : AsksInRound roster tests writer reader old asked)
    → length asks.answers.step.packets ≤ packets_for (writer_at (machine_of old) writer).max_value
