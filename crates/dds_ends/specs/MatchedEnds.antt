-- Whom a writer is matched with now, by what its peer keeps of them: readers that the roster matches with it; their
-- peers, each once; the reliable ones, each once, by name; and the last counts of those that were matched before. Inner
-- functions alone cite this: nothing here has to be believed.
--
-- RTPS 2.5, 8.4.7 (StatefulWriter, matched_readers; ReaderProxy).
use Rattle.std.specs.Prelude.{◌≡◌, ℕ, Bool, true, false, if◌then◌else◌, List, [], ◌∷◌, Option, Some, None, ℤ, map, slice_get}
use Rattle.std.specs.List.{list_any}
use Rattle.dds_base.specs.declared.endpoint.Endpoint.{Endpoint}
use Rattle.dds_machine.specs.Part.{TopicReader, peers_of, same_endpoint}
use Rattle.dds_protocol.specs.Claims.{IsReader, IsWriter}
use Rattle.dds_protocol.specs.Roster.{Roster}
use Rattle.dds_ends.specs.declared.matching.Destination.{Destination}
use Rattle.dds_ends.specs.declared.matching.LastCount.{LastCount}
use Rattle.dds_ends.specs.declared.matching.ReaderName.{ReaderName}
use Rattle.dds_ends.specs.declared.matching.TopicName.{TopicName}
use Rattle.dds_ends.specs.declared.matching.WriterName.{WriterName}

-- the name is that of a reader that the roster matches with the writer
pub record IsNameOf (roster : Roster) (writer : Endpoint) (name : ReaderName) : Type 0 where
  pub is : IsReader roster name.guid.prefix name.guid.entity name.reader
  pub matched : roster.are_matched writer name.reader ≡ true

-- what a writer knows of a reader: the name is that of such a reader, and it is as reliable as it is known
pub record IsKnownReader (roster : Roster) (writer : Endpoint) (known : TopicName) : Type 0 where
  pub name_is : IsNameOf roster writer known.name
  pub as_reliable : roster.is_reliable known.name.reader ≡ known.is_reliable

-- so it is of each reader that it knows
abbrev pub AreKnownReaders : Roster → Endpoint → List TopicName → Type 0
AreKnownReaders roster writer known =
    (i : ℕ) (k : TopicName) → slice_get known i ≡ Some k → IsKnownReader roster writer k

-- the name is that of a writer that the roster matches with the reader
pub record IsWriterNamed (roster : Roster) (reader : Endpoint) (name : WriterName) : Type 0 where
  pub is : IsWriter roster name.guid.prefix name.guid.entity name.writer
  pub matched : roster.are_matched name.writer reader ≡ true

-- so it is of each writer that a reader has a row of
abbrev pub AreKnownWriters : Roster → Endpoint → List WriterName → Type 0
AreKnownWriters roster reader rows =
    (i : ℕ) (n : WriterName) → slice_get rows i ≡ Some n → IsWriterNamed roster reader n

-- the name is that of a reliable reader that is matched with the writer
pub record IsReliableName (roster : Roster) (writer : Endpoint) (name : ReaderName) : Type 0 where
  pub name_is : IsNameOf roster writer name
  pub reliable : roster.is_reliable name.reader ≡ true

-- a peer of this number and prefix
abbrev pub IsPeer : Roster → Destination → Type 0
IsPeer roster d = roster.prefix d.peer ≡ d.prefix

-- some of these names is the reader's
abbrev pub is_named : List ReaderName → Endpoint → Bool
is_named names reader = list_any (λ (n : ReaderName). same_endpoint n.reader reader) names

-- the readers that these names are of
abbrev pub readers_of : List ReaderName → List Endpoint
readers_of names = map (λ (n : ReaderName). n.reader) names

-- what is known of this reader, if it is one of these
abbrev pub known_as : List TopicName → Endpoint → Option TopicName
known_as [] reader = None
known_as (k ∷ ks) reader = if same_endpoint k.name.reader reader then Some k else known_as ks reader

-- the reader that is known so, as the machine has it
abbrev pub topic_reader : TopicName → TopicReader
topic_reader k = record { reader = k.name.reader; reliable = k.is_reliable }

-- the names of these readers
abbrev pub names_of : List TopicName → List ReaderName
names_of known = map (λ (k : TopicName). k.name) known

-- the readers that a writer is matched with, their peers, and the reliable ones among them
pub record AreMatchedNow (roster : Roster) (writer : Endpoint) (matched : List ReaderName) (to : List Destination)
    (names : List ReaderName) : Type 0 where
  pub readers : (k : ℕ) (n : ReaderName) → slice_get matched k ≡ Some n → IsNameOf roster writer n
  pub sent_to : peers_of (readers_of matched) ≡ map (λ (d : Destination). d.peer) to
  pub prefixes : (k : ℕ) (d : Destination) → slice_get to k ≡ Some d → IsPeer roster d
  pub named : (k : ℕ) (n : ReaderName) → slice_get names k ≡ Some n → IsReliableName roster writer n

-- the count of the last ACKNACK of a reader, as it was kept when the reader left; none of one that never left
abbrev pub last_count : List LastCount → Endpoint → Option ℤ
last_count [] reader = None
last_count (c ∷ cs) reader = if same_endpoint c.reader reader then c.count else last_count cs reader

-- there is a place for that count
abbrev pub has_count : List LastCount → Endpoint → Bool
has_count counts reader = list_any (λ (c : LastCount). same_endpoint c.reader reader) counts

-- that of a reader that never left
abbrev pub first_count : ReaderName → LastCount
first_count name = record { reader = name.reader; count = None }

-- no two of these names are of one reader
abbrev pub AreNamedOnce : List ReaderName → Type 0
AreNamedOnce [] = Unit {0}
AreNamedOnce (n ∷ ns) = (is_named ns n.reader ≡ false) × AreNamedOnce ns

-- the reliable readers are each named once, are matched, and have each a place for a count
pub record AreRows (matched names : List ReaderName) (counts : List LastCount) : Type 0 where
  pub once : AreNamedOnce names
  pub among : (reader : Endpoint) → is_named names reader ≡ true → is_named matched reader ≡ true
  pub places : (reader : Endpoint) → is_named names reader ≡ true → has_count counts reader ≡ true

-- each of these names is of one of those readers, and no two are of one
pub record AreAmong (known : List TopicName) (names : List ReaderName) : Type 0 where
  pub once : AreNamedOnce names
  pub there : (reader : Endpoint) → is_named names reader ≡ true → is_named (names_of known) reader ≡ true
