-- What a peer's ends stand for: a writer for a writer of the machine, a reader for a reader. What a value stands for
-- need not be believed: the contracts say all that matters of it.
--
-- RTPS 2.5, 8.4.7 (StatefulWriter, ReaderProxy), 8.4.10 (StatefulReader, WriterProxy): the machine has them without
-- packets.
use Rattle.std.specs.Prelude.{◌≡◌, ℕ, suc, ◌<◌, ◌≤◌, List, [], map, length, get_or, slice_get, Some, All, true, false}
use Rattle.dds_base.specs.declared.change.Change.{Change}
use Rattle.dds_base.specs.Bounds.{greatest_value}
use Rattle.dds_base.specs.Kept.{change_at}
use Rattle.dds_base.specs.Written.{changes_of}
use Rattle.dds_cache.specs.Standing.{qos_of}
use Rattle.rtps_reader.specs.declared.attachment.Attachment.{Attachment as AttachmentOf}
use Rattle.rtps_reader.specs.declared.attachment.Attachment.TheVariants as standing
use Rattle.rtps_reader.specs.Tracked.{Tracked, fresh}
use Rattle.rtps_reader.specs.Reader.{Tracks, how_at}
use Rattle.rtps_writer.specs.Standing.{Kept, reader_count, StandsFor as RtpsStandsFor}
use Rattle.rtps_writer.specs.WriterState.{WriterState}
use Rattle.dds_base.specs.declared.endpoint.Endpoint.{Endpoint}
use Rattle.dds_machine.specs.Matching.{attached_count, max_known}
use Rattle.dds_machine.specs.Part.{Attachment, Away, Waiting, Begun, how_of, Writer, Reader, ReaderProxy, WriterProxy, no_writer, no_reader, peers_of, place_of}
use Rattle.dds_protocol.specs.Contact.{Contact}
use Rattle.dds_protocol.specs.Dues.{AreFew}
use Rattle.dds_protocol.specs.Protocol.{Known}
use Rattle.dds_ends.specs.declared.matching.Destination.{Destination}
use Rattle.dds_ends.specs.declared.matching.ReaderName.{ReaderName}
use Rattle.dds_ends.specs.declared.matching.TopicName.{TopicName}
use Rattle.dds_ends.specs.declared.matching.WriterName.{WriterName}
use Rattle.dds_ends.specs.Storing.{Holds}
use Rattle.dds_ends.specs.Kept.{WriterKept, ReaderKept}
use Rattle.dds_ends.specs.MatchCounts.{CountsFor}
use Rattle.dds_ends.specs.MatchedEnds.{AreAmong, AreNamedOnce, AreRows, is_named, last_count, names_of, readers_of, topic_reader}

-- the state of a writer of the machine, with what it knows of each matched reader by its ACKNACKs
abbrev pub state_of : Writer → (Endpoint → Contact) → WriterState
state_of w answered = record {
  policy = w.policy;
  max_samples = w.max_samples;
  lease = w.lease;
  strength = w.strength;
  written = w.written;
  firsts = map (λ (p : ReaderProxy). p.first) w.readers;
  acknowledged = map (λ (p : ReaderProxy). p.acknowledged) w.readers;
  counts = map (λ (p : ReaderProxy). (answered p.reader).count) w.readers;
  asks = map (λ (p : ReaderProxy). (answered p.reader).asks) w.readers;
  silents = map (λ (p : ReaderProxy). (answered p.reader).silent) w.readers;
}

-- the reader of a row has acknowledged all below a number from 1 on
abbrev pub CountsFrom1 : ReaderProxy → Type 0
CountsFrom1 p = 1 ≤ p.acknowledged

-- a matched reader without a row is not silent
abbrev pub AreQuiet : (matched names : List ReaderName) → (Endpoint → Contact) → Type 0
AreQuiet matched names answered = (reader : Endpoint) → is_named matched reader ≡ true
    → is_named names reader ≡ false → (answered reader).silent ≡ false

-- a writer of the machine for which what is kept stands, with what it knows so; the count of a reader without a row is
-- kept beside
pub record WriterStands (kept : WriterKept) (w : Writer) (answered : Endpoint → Contact) : Type 0 where
  pub autodispose : w.autodispose ≡ kept.autodispose
  pub values : w.max_value ≡ kept.max_value
  pub known : w.known ≡ map topic_reader kept.known
  pub matched : w.matched ≡ readers_of kept.matched
  pub readers : map (λ (p : ReaderProxy). p.reader) w.readers ≡ map (λ (r : ReaderName). r.reader) kept.readers
  pub writer : RtpsStandsFor kept.writer (state_of w answered)
  pub begun : All CountsFrom1 w.readers
  pub rows : AreRows kept.matched kept.readers kept.counts
  pub counted : (reader : Endpoint) → is_named kept.readers reader ≡ false
      → (answered reader).count ≡ last_count kept.counts reader
  pub quiet : AreQuiet kept.matched kept.readers answered
  pub matches : CountsFor kept.matches w.matches

-- a value has at most so many octets, and no more than a datagram takes
abbrev pub IsShort : ℕ → List ℕ → Type 0
IsShort most value = (length value ≤ most) × (length value ≤ greatest_value)

-- so it is of the value of each of these changes
abbrev pub AreShort : ℕ → List Change → Type 0
AreShort most changes = (number : ℕ) (change : Change) → change_at changes number ≡ Some change
    → IsShort most change.value

-- what is so of each writer: it knows no more readers than can be, and no more of a peer than a peer has, each that it is
-- matched with is one of those, it sends to their peers, its reliable readers are among them, each once, and are the ones of what it keeps, and that stands for
-- some state, of changes as short as its values are to be
pub record IsWhole (most : ℕ) (known : List TopicName) (matched : List ReaderName) (destinations : List Destination)
    (readers : List ReaderName) (writer : Kept) : Type 0 where
  pub limited : length known ≤ max_known
  pub few_at : AreFew (readers_of (names_of known))
  pub matched_are : AreAmong known matched
  pub once : AreNamedOnce readers
  pub among : (reader : Endpoint) → is_named readers reader ≡ true → is_named matched reader ≡ true
  pub told : peers_of (readers_of matched) ≡ map (λ (d : Destination). d.peer) destinations
  pub few : length destinations ≤ max_known
  pub many : length readers ≤ max_known
  pub count : reader_count writer ≡ length readers
  pub state : WriterState
  pub stands : RtpsStandsFor writer state
  pub short : AreShort most (changes_of state.written)

-- the reader's writer of this row is this one, and no earlier row is
pub record IsFirstRow (names : List WriterName) (writer : Endpoint) (k : ℕ) : Type 0 where
  pub name : WriterName
  pub at : slice_get names k ≡ Some name
  pub is : name.writer ≡ writer
  pub first : (j : ℕ) (n : WriterName) → j < k → slice_get names j ≡ Some n → n.writer ≡ writer → ⊥

-- the writer's reader of this row is this one, and no earlier row is
pub record IsFirstReader (names : List ReaderName) (reader : Endpoint) (k : ℕ) : Type 0 where
  pub within : k < length names
  pub name : ReaderName
  pub at : slice_get names k ≡ Some name
  pub is : name.reader ≡ reader
  pub first : (j : ℕ) (n : ReaderName) → j < k → slice_get names j ≡ Some n → n.reader ≡ reader → ⊥

-- how a reader stands to a writer, as the machine has it
abbrev pub stood_as : AttachmentOf → Attachment
stood_as standing.Away = Away
stood_as standing.Waiting = Waiting
stood_as standing.Begun = Begun

-- the writer is none of these rows
abbrev pub HasNoRow : List WriterName → Endpoint → Type 0
HasNoRow names writer = (j : ℕ) (n : WriterName) → slice_get names j ≡ Some n → n.writer ≡ writer → ⊥

-- a reader of the machine, with the writers that it knows, how it stands to them, and what is known of them, for which
-- what is kept stands; of a writer without a row nothing is known
pub record ReaderStands (kept : ReaderKept) (proxies : List WriterProxy) (r : Reader)
    (tracked : Endpoint → Tracked) : Type 0 where
  pub writers_are : map (λ (p : WriterProxy). p.writer) proxies ≡ map (λ (n : WriterName). n.writer) kept.writers
  pub places : (w : Endpoint) (p : ℕ) → place_of proxies w ≡ Some p → (tracked w).place ≡ p
  pub knows : (w : Endpoint) (k : ℕ) → IsFirstRow kept.writers w k → Tracks kept.reader k (tracked w)
  pub others : (w : Endpoint) → HasNoRow kept.writers w → tracked w ≡ fresh
  pub qos_is : r.qos ≡ qos_of kept.store.cache
  pub holds : Holds kept.store r.happened
  pub seen_is : r.seen ≡ kept.seen
  pub hows : (w : Endpoint) (k : ℕ) → IsFirstRow kept.writers w k → how_of proxies w ≡ stood_as (how_at kept.reader k)
  pub counts : CountsFor kept.matches r.matches
  pub here_is : kept.here ≡ attached_count proxies

-- each of a peer's writers stands for the one of its number, with what it knows of its readers
pub record WritersStand (kept : List WriterKept) (ws : List Writer) (answered : ℕ → Endpoint → Contact) : Type 0 where
  pub count : length ws ≡ length kept
  pub each : (i : ℕ) (k : WriterKept) → slice_get kept i ≡ Some k
      → WriterStands k (get_or ws i no_writer) (answered (suc i))

-- each of a peer's readers stands for the one of its number
pub record ReadersStand (kept : List ReaderKept) (proxies : List (List WriterProxy)) (rs : List Reader)
    (known : Known) : Type 0 where
  pub rows : length proxies ≡ length kept
  pub count : length rs ≡ length kept
  pub each : (i : ℕ) (k : ReaderKept) → slice_get kept i ≡ Some k
      → ReaderStands k (get_or proxies i []) (get_or rs i no_reader) (λ w. known.tracked w (suc i))
