-- A reader of the peer is told of a writer that it knows: that the two are matched from now on, or no longer. Inner
-- functions alone cite this: nothing here has to be believed.
--
-- RTPS 2.5, 8.4.10.3 (StatefulReader, matched_writer_add, matched_writer_remove); DDS 1.4, 2.2.4.1
-- (LivelinessChangedStatus: not_alive_count).
use Rattle.std.specs.Prelude.{◌≡◌, ℕ, ◌+◌, ◌-◌, ◌^◌, ◌<◌, min, Bool, if◌then◌else◌, List, length}
use Rattle.dds_base.specs.declared.endpoint.Endpoint.{Endpoint}
use Rattle.dds_machine.specs.Matching.{with_match, with_how, reader_joined, reader_left, happened_after}
use Rattle.dds_machine.specs.Part.{Away, Reader, WriterProxy, publication_among}
use Rattle.rtps_reader.specs.Tracked.{Tracked}
use Rattle.dds_ends.specs.Kept.{ReaderKept}
use Rattle.dds_ends.specs.Identity.{reader_identity}
use Rattle.dds_ends.specs.Standing.{IsFirstRow, ReaderStands}

-- how many entries a parting makes, of a writer that is alive or is not
abbrev pub parting_entries : Bool → ℕ
parting_entries alive = if alive then 2 else 1

-- With so many writers a reader is matched, as a word counts them, that was matched with so many: it is told of one,
-- with which it was matched or not.
abbrev pub joined_here : Bool → ℕ → ℕ
joined_here was here = if was then here else min (here + 1) (2 ^ 32 - 1)

-- the same, once that one has left
abbrev pub left_here : Bool → ℕ → ℕ
left_here was here = if was then here - 1 else here

-- the reader was told that the writer of this row is matched with it, and nothing else happened
pub record Attaches (old : ReaderKept) (row : ℕ) (new : ReaderKept) : Type 0 where
  pub same : reader_identity new ≡ reader_identity old
  pub stands : (writer : Endpoint) (proxies : List WriterProxy) (r : Reader) (tracked : Endpoint → Tracked)
      → IsFirstRow old.writers writer row → ReaderStands old proxies r tracked
      → ReaderStands new (with_match proxies writer) (reader_joined r writer) tracked

-- the reader was told that the writer of this row left at this moment, and nothing else happened
pub record Detaches (old : ReaderKept) (row now : ℕ) (new : ReaderKept) : Type 0 where
  pub same : reader_identity new ≡ reader_identity old
  pub stands : (writer : Endpoint) (proxies : List WriterProxy) (r : Reader) (tracked : Endpoint → Tracked)
      → IsFirstRow old.writers writer row → ReaderStands old proxies r tracked
      → ReaderStands new (with_how proxies writer Away)
      (reader_left r writer (happened_after (publication_among proxies writer) now r.happened)) tracked

-- more would have happened at the reader by that than can be counted
abbrev pub IsPastParting : ReaderKept → ℕ → ℕ → Type 0
IsPastParting kept row now = (writer : Endpoint) (proxies : List WriterProxy) (r : Reader) (tracked : Endpoint → Tracked)
    → IsFirstRow kept.writers writer row → ReaderStands kept proxies r tracked
    → 2 ^ 64 - 1 < length (happened_after (publication_among proxies writer) now r.happened)
