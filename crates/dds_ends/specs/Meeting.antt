-- What a writer and a reader of a peer do when they are told of an end that they may not know. Inner functions alone cite
-- this: nothing here has to be believed.
--
-- RTPS 2.5, 8.4.7.4 (StatefulWriter, matched_reader_add), 8.4.10.3 (StatefulReader, matched_writer_add).
use Rattle.std.specs.Prelude.{◌≡◌, ◌⊎◌, ℕ, ◌==◌, ◌&&◌, ◌||◌, nat_le, count_by, length, false, Bool, true, if◌then◌else◌, List, [], ◌∷◌, ◌++◌, Option, Some, None}
use Rattle.std.specs.List.{list_any}
use Rattle.std.specs.Option.{option_or}
use Rattle.dds_base.specs.declared.code.Code.{Code}
use Rattle.dds_base.specs.declared.code.Code.TheVariants.{OutOfResources}
use Rattle.dds_base.specs.declared.endpoint.Endpoint.{Endpoint}
use Rattle.dds_base.specs.declared.qos.MatchedWriter.{MatchedWriter}
use Rattle.dds_base.specs.Bounds.{max_ends}
use Rattle.dds_machine.specs.Matching.{has_too_many, is_matched, knows_too_many, matching_refusal, max_known, meets_reliable, met, reader_met, with_match}
use Rattle.dds_machine.specs.Part.{Reader, Writer, WriterProxy, how_of, is_attached, same_endpoint}
use Rattle.dds_protocol.specs.Contact.{Contact}
use Rattle.rtps_reader.specs.Tracked.{Tracked}
use Rattle.dds_protocol.specs.Roster.{Roster}
use Rattle.dds_ends.specs.declared.matching.ReaderName.{ReaderName}
use Rattle.dds_ends.specs.declared.matching.TopicName.{TopicName}
use Rattle.dds_ends.specs.declared.matching.WriterName.{WriterName}
use Rattle.dds_ends.specs.Coming.{matched_anew}
use Rattle.dds_ends.specs.Identity.{reliable_in}
use Rattle.dds_ends.specs.Kept.{ReaderKept, WriterKept}
use Rattle.dds_ends.specs.MatchedEnds.{AreKnownReaders, AreMatchedNow, is_named, known_as, names_of}
use Rattle.dds_ends.specs.Standing.{IsFirstRow, ReaderStands, WriterStands}

-- ---- at a writer

-- the readers that it knows, and this one
abbrev pub with_known : List TopicName → ReaderName → Bool → List TopicName
with_known known name reliable =
    if is_named (names_of known) name.reader then known
    else known ++ record { name = name; is_reliable = reliable } ∷ []

-- a writer that knows this reader so, unless it knows it already, and nothing else
abbrev pub learned : WriterKept → TopicName → WriterKept
learned k reader = record k { known = with_known k.known reader.name reader.is_reliable }

-- a writer that knows these readers knows as many of this peer as a peer has at most, or as many as can be
abbrev pub is_full : List TopicName → ℕ → Bool
is_full known peer =
    nat_le max_ends (count_by (λ (k : TopicName). k.name.reader.peer == peer) known) || nat_le max_known (length known)

-- it knows this reader so, or does not know it, and has room for it
abbrev pub MayKnow : List TopicName → TopicName → Type 0
MayKnow known reader = (known_as known reader.name.reader ≡ Some reader)
    ⊎ ((known_as known reader.name.reader ≡ None) × (is_full known reader.name.reader.peer ≡ false))

-- the writer may be matched with this reader: it is not, and knows it, or has room for it
pub record MayMeet (kept : WriterKept) (reader : TopicName) : Type 0 where
  pub unmatched : is_named kept.matched reader.name.reader ≡ false
  pub known : MayKnow kept.known reader

-- why a writer refuses to meet a reader that may be called so
abbrev pub meeting_refusal : Writer → Endpoint → Option Code
meeting_refusal w reader =
    option_or (matching_refusal true (is_matched w reader))
    (if knows_too_many w reader then Some OutOfResources else None)

-- A writer that is matched with one reader more, where it was not, and knows it from now on; and nothing else. Whom the
-- writer is matched with is known, where those that it knows then are readers that the roster matches with it.
pub record Meets (old : WriterKept) (name : ReaderName) (reliable greeted : Bool) (new : WriterKept) : Type 0 where
  pub entity : new.entity ≡ old.entity
  pub autodispose : new.autodispose ≡ old.autodispose
  pub max_value : new.max_value ≡ old.max_value
  pub known : new.known ≡ with_known old.known name reliable
  pub stands : (w : Writer) (answered : Endpoint → Contact) → WriterStands old w answered
      → WriterStands new (met w name.reader reliable)
      (matched_anew answered name.reader (greeted && meets_reliable w name.reader reliable))
  pub ends : (roster : Roster) (writer : Endpoint) → AreKnownReaders roster writer new.known
      → AreMatchedNow roster writer old.matched old.destinations old.readers
      → AreMatchedNow roster writer new.matched new.destinations new.readers

-- ---- at a reader

-- some of these rows is of the writer
abbrev pub has_row : List WriterName → Endpoint → Bool
has_row names writer = list_any (λ (n : WriterName). same_endpoint n.writer writer) names

-- the writers of its rows, and this one
abbrev pub with_row_of : List WriterName → WriterName → List WriterName
with_row_of names name = if has_row names name.writer then names else names ++ name ∷ []

-- why a reader, which knows these writers, refuses to meet one that may be called so
abbrev pub writer_meeting_refusal : List WriterProxy → Endpoint → Option Code
writer_meeting_refusal rows writer =
    option_or (matching_refusal true (is_attached (how_of rows writer)))
    (if has_too_many rows writer then Some OutOfResources else None)

-- so it is of each reader that is stood for
abbrev pub RefusesWriterSo : ReaderKept → Endpoint → (Option Code → Type 0) → Type 0
RefusesWriterSo kept writer P = (proxies : List WriterProxy) (r : Reader) (tracked : Endpoint → Tracked)
    → ReaderStands kept proxies r tracked → P (writer_meeting_refusal proxies writer)

-- A reader that is matched with this writer, where it was not, and knows it from now on, by this row; and nothing else.
pub record MeetsWriter (old : ReaderKept) (name : WriterName) (as_writer : MatchedWriter) (row : ℕ) (new : ReaderKept)
    : Type 0 where
  pub entity : new.entity ≡ old.entity
  pub reliable : reliable_in new.store ≡ reliable_in old.store
  pub writers : new.writers ≡ with_row_of old.writers name
  pub stands : (proxies : List WriterProxy) (r : Reader) (tracked : Endpoint → Tracked)
      → ReaderStands old proxies r tracked
      → ReaderStands new (with_match proxies name.writer) (reader_met proxies r name.writer as_writer) tracked
  pub at : IsFirstRow new.writers name.writer row
