-- What a writer of a peer does when it is told that it is matched with a reader from now on, or no longer. Inner functions
-- alone cite this: nothing here has to be believed.
--
-- RTPS 2.5, 8.4.7.4 (StatefulWriter, matched_reader_add, matched_reader_remove); DDS 1.4, 2.2.3 (DURABILITY: VOLATILE).
use Rattle.std.specs.Prelude.{◌≡◌, ℕ, ◌==◌, ◌&&◌, Bool, false, not, if◌then◌else◌, List, [], ◌∷◌, ◌++◌, filter, slice_get, take, Option, Some, None, ℤ}
use Rattle.std.specs.List.{list_any}
use Rattle.std.specs.Option.{option_map_or}
use Rattle.dds_base.specs.declared.endpoint.Endpoint.{Endpoint}
use Rattle.dds_base.specs.declared.code.Code.{Code}
use Rattle.dds_machine.specs.Matching.{is_matched, joined, knows_reader, knows_reliable, left, matching_refusal, writer_looked_at}
use Rattle.dds_machine.specs.Part.{ReaderProxy, Writer, same_endpoint}
use Rattle.dds_protocol.specs.Contact.{Contact}
use Rattle.dds_protocol.specs.Roster.{Roster}
use Rattle.dds_ends.specs.declared.matching.Destination.{Destination}
use Rattle.dds_ends.specs.declared.matching.LastCount.{LastCount}
use Rattle.dds_ends.specs.declared.matching.ReaderName.{ReaderName}
use Rattle.dds_ends.specs.Identity.{writer_identity}
use Rattle.dds_ends.specs.Kept.{WriterKept}
use Rattle.dds_ends.specs.MatchedEnds.{AreKnownReaders, AreMatchedNow, has_count, is_named}
use Rattle.dds_ends.specs.Standing.{WriterStands}

-- the names without this reader's
abbrev pub without : List ReaderName → Endpoint → List ReaderName
without names reader = filter (λ (n : ReaderName). not (same_endpoint n.reader reader)) names

-- some of these readers is of this peer
abbrev pub has_reader_at : List ReaderName → ℕ → Bool
has_reader_at names peer = list_any (λ (n : ReaderName). n.reader.peer == peer) names

-- of these readers no earlier one is of the same peer as the one of this row, from 0
abbrev pub is_first_of : List ReaderName → ℕ → Bool
is_first_of names row =
    option_map_or (λ (n : ReaderName). not (has_reader_at (take row names) n.reader.peer)) (slice_get names row) false

-- these peers with one more, last, unless it is among them
abbrev pub with_peer : List Destination → Destination → List Destination
with_peer ds d = if list_any (λ (x : Destination). x.peer == d.peer) ds then ds else ds ++ d ∷ []

-- the counts, once this one is kept of the reader, which has a place
abbrev pub set_count : List LastCount → Endpoint → Option ℤ → List LastCount
set_count [] reader count = []
set_count (c ∷ cs) reader count =
    if same_endpoint c.reader reader then record c { count = count } ∷ cs else c ∷ set_count cs reader count

-- the counts, once there is a place for that of the reader
abbrev pub with_place : List LastCount → Endpoint → List LastCount
with_place counts reader =
    if has_count counts reader then counts else counts ++ record { reader = reader; count = None } ∷ []

-- a writer that is not matched with this reader any more, and has no row of it; whose matches are counted as they were
abbrev pub rows_left : Writer → Endpoint → Writer
rows_left w reader = record w {
  matched = filter (λ (e : Endpoint). not (same_endpoint e reader)) w.matched;
  readers = filter (λ (p : ReaderProxy). not (same_endpoint p.reader reader)) w.readers;
}

-- a writer with what it keeps, once it is not matched with this reader any more
abbrev pub unmatched_kept : WriterKept → Endpoint → WriterKept
unmatched_kept k reader = record k { matched = without k.matched reader }

-- a writer that has no row of this reader any more, and nothing else: so far it names that one among its matched readers
pub record ForgetsRow (old : WriterKept) (reader : Endpoint) (new : WriterKept) : Type 0 where
  pub same : record new { readers = old.readers; counts = old.counts; writer = old.writer } ≡ old
  pub names : (k : ℕ) (n : ReaderName) → slice_get new.readers k ≡ Some n
      → (j : ℕ) × (slice_get old.readers j ≡ Some n)
  pub gone : is_named new.readers reader ≡ false
  pub stands : (w : Writer) (answered : Endpoint → Contact) → WriterStands old w answered
      → WriterStands (unmatched_kept new reader) (rows_left w reader) answered

-- why a writer refuses what it is told: that it is matched with the reader from now on ..
abbrev pub joining_refusal : Writer → Endpoint → Option Code
joining_refusal w reader = matching_refusal (knows_reader w reader) (is_matched w reader)

-- .. or no longer
abbrev pub leaving_refusal : Writer → Endpoint → Option Code
leaving_refusal w reader = matching_refusal (knows_reader w reader) (not (is_matched w reader))

-- so it is for each writer that is stood for
abbrev pub RefusesSo : (Writer → Endpoint → Option Code) → WriterKept → Endpoint → (Option Code → Type 0) → Type 0
RefusesSo refusal kept reader P = (w : Writer) (answered : Endpoint → Contact) → WriterStands kept w answered
    → P (refusal w reader)

-- what never changes of a writer
pub record IsSameWriter (old new : WriterKept) : Type 0 where
  pub entity : new.entity ≡ old.entity
  pub autodispose : new.autodispose ≡ old.autodispose
  pub max_value : new.max_value ≡ old.max_value
  pub known : new.known ≡ old.known

-- A writer that is no longer matched with this reader, and nothing else. Whom it is matched with is known as it was.
pub record Leaves (old : WriterKept) (reader : Endpoint) (new : WriterKept) : Type 0 where
  pub same : IsSameWriter old new
  pub stands : (w : Writer) (answered : Endpoint → Contact) → WriterStands old w answered
      → WriterStands new (left w reader) answered
  pub ends : (roster : Roster) (writer : Endpoint)
      → AreMatchedNow roster writer old.matched old.destinations old.readers
      → AreMatchedNow roster writer new.matched new.destinations new.readers

-- what a writer knows of its readers, once it is matched with this one anew: it asks for no HEARTBEAT, and is silent or
-- not
abbrev pub matched_anew : (Endpoint → Contact) → Endpoint → (silent : Bool) → Endpoint → Contact
matched_anew answered reader silent r =
    if same_endpoint r reader then record (answered reader) { asks = false; silent = silent } else answered r

-- A writer that is matched with one reader more, where it was not; and nothing else. The reader asks for no HEARTBEAT,
-- and is silent where it was greeted, and is reliable. Whom the writer is matched with is known, as it was, where those
-- that it knows are readers that the roster matches with it.
pub record Joins (old : WriterKept) (reader : Endpoint) (greeted : Bool) (new : WriterKept) : Type 0 where
  pub same : IsSameWriter old new
  pub stands : (w : Writer) (answered : Endpoint → Contact) → WriterStands old w answered
      → WriterStands new (joined w reader (knows_reliable w reader))
      (matched_anew answered reader (greeted && knows_reliable w reader))
  pub ends : (roster : Roster) (writer : Endpoint) → AreKnownReaders roster writer old.known
      → AreMatchedNow roster writer old.matched old.destinations old.readers
      → AreMatchedNow roster writer new.matched new.destinations new.readers

-- a writer at whose matches the application has looked, and nothing else
pub record LooksAtMatches (old new : WriterKept) : Type 0 where
  pub same : writer_identity new ≡ writer_identity old
  pub stands : (w : Writer) (answered : Endpoint → Contact) → WriterStands old w answered
      → WriterStands new (writer_looked_at w) answered
