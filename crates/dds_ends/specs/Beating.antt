-- The HEARTBEATs of a peer's writers, at a tick and for an assertion, by what the peer keeps. Inner functions alone
-- cite this: nothing here has to be believed.
--
-- RTPS 2.5, 8.4.9 (reliable StatefulWriter: heartbeatPeriod), 8.3.8 (Heartbeat).
use Rattle.std.specs.Prelude.{◌≡◌, ℕ, ◌+◌, ◌-◌, ◌≤◌, ◌==◌, ◌&&◌, Bool, not, if◌then◌else◌, nat_lt, nat_le, count_by, true, false, List, [], ◌∷◌, ◌++◌, length, map, filter, take, slice_get, pos}
use Rattle.std.specs.List.{list_any, AllByRecursion}
use Rattle.std.specs.Option.{option_map_or}
use Rattle.dds_base.specs.declared.guid.GuidPrefix.{GuidPrefix}
use Rattle.dds_base.specs.declared.guid.EntityId.{EntityId}
use Rattle.dds_base.specs.Bounds.{max_changes, max_count}
use Rattle.dds_base.specs.Kept.{first_kept}
use Rattle.rtps_wire.specs.declared.message.Message.{Message}
use Rattle.rtps_wire.specs.declared.submessage.Submessage.{Submessage}
use Rattle.rtps_wire.specs.declared.submessage.Submessage.TheVariants.{InfoDst, Heartbeat}
use Rattle.rtps_writer.specs.declared.heartbeat.HeartbeatDue.{HeartbeatDue}
use Rattle.rtps_wire.specs.Submessages.{IsSpellable, all_value_octets}
use Rattle.rtps_writer.specs.Standing.{Kept, StandsFor as RtpsStandsFor}
use Rattle.rtps_writer.specs.WriterState.{WriterState, last_of, history_of as rtps_history_of}
use Rattle.dds_base.specs.declared.endpoint.Endpoint.{Endpoint}
use Rattle.dds_protocol.specs.declared.event.Packet.{Packet}
use Rattle.dds_machine.specs.Part.{ReaderProxy, Writer, writer_changes, heartbeats_used, history_of, row_of}
use Rattle.dds_protocol.specs.Claims.{every_reader}
use Rattle.dds_protocol.specs.DueMessages.{Due, AreSent, begins_at, is_one_for_all, is_told}
use Rattle.dds_protocol.specs.Contact.{Contact}
use Rattle.dds_ends.specs.declared.heartbeat.Beat.{Beat}
use Rattle.dds_ends.specs.declared.matching.Destination.{Destination}
use Rattle.dds_ends.specs.declared.matching.ReaderName.{ReaderName}
use Rattle.dds_ends.specs.declared.sending.Announced.{Announced}
use Rattle.dds_ends.specs.Kept.{WriterKept}
use Rattle.dds_ends.specs.Standing.{WriterStands, WritersStand, state_of}

-- a HEARTBEAT can be written that names the numbers from the one to the other, or, where they meet, none
pub record CanSpan (first last : ℕ) : Type 0 where
  pub low : 1 ≤ first
  pub not_past : first ≤ last + 1
  pub high : last ≤ max_changes

-- it is from the first kept number to the last one of a state for which what a writer keeps stands
pub record IsDueOf (kept : Kept) (due : HeartbeatDue) : Type 0 where
  pub state : WriterState
  pub stands : RtpsStandsFor kept state
  pub first : due.first ≡ first_kept (rtps_history_of state)
  pub last : due.last ≡ last_of state

-- the HEARTBEAT to readers of this entity id, from this number to that
abbrev pub beat_from : Beat → EntityId → ℕ → ℕ → Submessage
beat_from beat reader first last =
    Heartbeat (record {
      reader_id = reader;
      writer_id = beat.entity;
      first_sn = first;
      last_sn = last;
      count = beat.due.count;
      final_flag = beat.asserts;
      liveliness_flag = beat.asserts;
    })

-- a message that is due to a peer
abbrev pub due_to : ℕ → Message → Due
due_to to message = record { to = to; message = message }

-- where a HEARTBEAT by name to a reader ends: one without a row is not silent
abbrev pub ends_for : (Endpoint → Contact) → Writer → Endpoint → ℕ
ends_for answered w reader =
    option_map_or (λ (p : ReaderProxy).
    if (answered p.reader).silent then begins_at w reader - 1 else length (writer_changes w))
    (row_of (λ (p : ReaderProxy). p.reader) w.readers reader) (length (writer_changes w))

-- by name to a reader
abbrev pub beat_for : Beat → Writer → (Endpoint → Contact) → ReaderName → Submessage
beat_for beat w answered n = beat_from beat n.guid.entity (begins_at w n.reader) (ends_for answered w n.reader)

-- how many of these readers are at a peer
abbrev pub names_at : List ReaderName → ℕ → ℕ
names_at names to = count_by (λ (n : ReaderName). n.reader.peer == to) names

-- by name to those of these readers that are at a peer
abbrev pub beats_for : Beat → Writer → (Endpoint → Contact) → List ReaderName → ℕ → List Submessage
beats_for beat w answered names to =
    map (beat_for beat w answered) (filter (λ (n : ReaderName). n.reader.peer == to) names)

-- to those of these readers that are at a peer: one for all of them, or one by name to each
abbrev pub beats_at : Beat → Writer → (Endpoint → Contact) → List ReaderName → ℕ → List Submessage
beats_at beat w answered names to =
    if is_one_for_all answered w to then beat_from beat every_reader beat.due.first beat.due.last ∷ []
    else beats_for beat w answered names to

-- these as a message to the peer of this prefix
abbrev pub message_to : Beat → GuidPrefix → List Submessage → Message
message_to beat to beats = record { prefix = beat.prefix; submessages = InfoDst to ∷ beats }

-- the message to a peer with these
abbrev pub beats_message : Beat → Writer → (Endpoint → Contact) → List ReaderName → Destination → Due
beats_message beat w answered names d =
    due_to d.peer (message_to beat d.prefix (beats_at beat w answered names d.peer))

-- some of these readers, of which those of such rows are told, is of this peer, and is told
abbrev pub is_peer_told : (ReaderProxy → Bool) → ℕ → List ReaderProxy → Bool
is_peer_told told peer rows = list_any (λ (p : ReaderProxy). (p.reader.peer == peer) && told p) rows

-- the reader of this row, from 0, is the first one of its peer that is told
abbrev pub is_first_told : (ReaderProxy → Bool) → List ReaderProxy → ℕ → Bool
is_first_told told rows row =
    option_map_or (λ (p : ReaderProxy). told p && not (is_peer_told told p.reader.peer (take row rows)))
    (slice_get rows row) false

-- the peer of a reader
abbrev pub peer_of : ReaderName → Destination
peer_of name = record { peer = name.reader.peer; prefix = name.guid.prefix }

-- the peers of these readers, each where its first one is
abbrev pub first_peers : List ReaderName → List Destination
first_peers [] = []
first_peers (n ∷ ns) = peer_of n ∷ filter (λ (d : Destination). not (d.peer == n.reader.peer)) (first_peers ns)

-- those of these readers, by their rows and names, that are told
abbrev pub names_told : (ReaderProxy → Bool) → List ReaderProxy → List ReaderName → List ReaderName
names_told told [] names = []
names_told told (p ∷ ps) [] = []
names_told told (p ∷ ps) (n ∷ ns) = if told p then n ∷ names_told told ps ns else names_told told ps ns

-- their peers, each where its first one is
abbrev pub peers_told : (ReaderProxy → Bool) → List ReaderProxy → List ReaderName → List Destination
peers_told told rows names = first_peers (names_told told rows names)

-- the HEARTBEATs to those of a writer's readers, by these names of them all, that are told
abbrev pub beats_to : Beat → Writer → (Endpoint → Contact) → List ReaderName → List Due
beats_to beat w answered names =
    map (beats_message beat w answered (names_told (is_told answered w) w.readers names))
    (peers_told (is_told answered w) w.readers names)

-- the HEARTBEAT that is due of a writer, from a peer of this prefix
abbrev pub beat_of : GuidPrefix → EntityId → Bool → Writer → Beat
beat_of prefix entity asserts w = record {
  prefix = prefix;
  entity = entity;
  due = record {
    first = first_kept (history_of w);
    last = length (writer_changes w);
    count = pos (heartbeats_used w + 1);
  };
  asserts = asserts;
}

-- what tells an assertion of a writer, which knows so much of its readers, from a peer of this prefix
abbrev pub assertions_of : GuidPrefix → WriterKept → Writer → (Endpoint → Contact) → List Due
assertions_of prefix kept w answered =
    map (beats_message (beat_of prefix kept.entity true w) w answered kept.matched) kept.destinations

-- what is due at a tick of a writer, which knows so much of its readers, from a peer of this prefix
abbrev pub beats_of : GuidPrefix → WriterKept → Writer → (Endpoint → Contact) → List Due
beats_of prefix kept w answered =
    if nat_lt (heartbeats_used w) max_count
    then beats_to (beat_of prefix kept.entity false w) w answered kept.readers
    else []

-- what is due at a tick of these writers, the first of which has this number, in their order
abbrev pub beats_of_all : GuidPrefix → (ℕ → Endpoint → Contact) → ℕ → List WriterKept → List Writer → List Due
beats_of_all prefix answered number [] ws = []
beats_of_all prefix answered number (k ∷ ks) [] = []
beats_of_all prefix answered number (k ∷ ks) (w ∷ ws) =
    beats_of prefix k w (answered number) ++ beats_of_all prefix answered (number + 1) ks ws

-- so it is of what was added to what a peer has sent
pub record Adds (dues : List Due) (old : List Packet) (before : ℕ) (new : List Packet) (after : ℕ) : Type 0 where
  pub packets : List Packet
  pub unsent : ℕ
  pub sent : new ≡ old ++ packets
  pub lost : after ≡ before + unsent
  pub written : AreSent dues packets unsent

-- so it is of what a peer has sent so far
abbrev pub AddsTo : List Due → Announced → Announced → Type 0
AddsTo dues old new = Adds dues old.packets.items old.unsent new.packets.items new.unsent

-- the names are those of the readers that a writer is matched with
abbrev pub AreReadersOf : Writer → List ReaderName → Type 0
AreReadersOf w readers = map (λ (p : ReaderProxy). p.reader) w.readers ≡ map (λ (r : ReaderName). r.reader) readers

-- a writer that a writer's parts stand for, with its readers by their names, whose first kept number this is
pub record BeginsAt (first : ℕ) (kept : Kept) (names : List ReaderName) (w : Writer) (answered : Endpoint → Contact)
    : Type 0 where
  pub names_are : AreReadersOf w names
  pub stands : RtpsStandsFor kept (state_of w answered)
  pub first_is : first ≡ first_kept (history_of w)

-- it is so of each such writer, and of what it knows of its readers
abbrev pub ForEach : ℕ → Kept → List ReaderName → (Writer → (Endpoint → Contact) → Type 0) → Type 0
ForEach first kept names P =
    (w : Writer) (answered : Endpoint → Contact) → BeginsAt first kept names w answered → P w answered

-- so many submessages at most were added, which can be written and have no value
pub record AddsBare (count : ℕ) (old new : List Submessage) : Type 0 where
  pub each : AllByRecursion IsSpellable old → AllByRecursion IsSpellable new
  pub more : length old ≤ length new
  pub few : length new ≤ length old + count
  pub bare : all_value_octets new ≤ all_value_octets old

-- for each writer that a writer's parts stand for, the HEARTBEATs to the peers that are told are added
abbrev pub Beats : Beat → Kept → List ReaderName → List Packet → ℕ → List Packet → ℕ → Type 0
Beats beat kept names old before new after =
    ForEach beat.due.first kept names (λ w answered. Adds (beats_to beat w answered names) old before new after)

-- for each of those, the HEARTBEATs to these matched readers at these peers are sent
abbrev pub Tells : Beat → Kept → List ReaderName → List ReaderName → List Destination → List Packet → ℕ → Type 0
Tells beat kept names matched ds packets unsent =
    ForEach beat.due.first kept names
    (λ w answered. AreSent (map (beats_message beat w answered matched) ds) packets unsent)

-- for each writer that is stood for, what is due at its tick is added
abbrev pub BeatsOf : GuidPrefix → WriterKept → List Packet → ℕ → List Packet → ℕ → Type 0
BeatsOf prefix kept old before new after =
    (w : Writer) (answered : Endpoint → Contact) → WriterStands kept w answered
    → Adds (beats_of prefix kept w answered) old before new after

-- the same of a peer's writers, from the first
abbrev pub BeatsOfAll : GuidPrefix → List WriterKept → List Packet → ℕ → Type 0
BeatsOfAll prefix kept packets unsent =
    (ws : List Writer) (answered : ℕ → Endpoint → Contact) → WritersStand kept ws answered
    → AreSent (beats_of_all prefix answered 1 kept ws) packets unsent

-- for each writer that is stood for, there was a count left for an assertion, and what tells of it is sent
abbrev pub TellsOf : GuidPrefix → WriterKept → List Packet → ℕ → Type 0
TellsOf prefix kept packets unsent = (w : Writer) (answered : Endpoint → Contact) → WriterStands kept w answered
    → (nat_le max_count (heartbeats_used w) ≡ false) × AreSent (assertions_of prefix kept w answered) packets unsent

-- for each writer that is stood for, no count is left
abbrev pub HasNoCount : WriterKept → Type 0
HasNoCount kept = (w : Writer) (answered : Endpoint → Contact) → WriterStands kept w answered
    → nat_le max_count (heartbeats_used w) ≡ true
