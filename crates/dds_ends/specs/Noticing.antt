-- What is kept of a writer and a reader before an event, what was raised at them since, and that it was looked at.
-- Inner functions alone cite this: nothing here has to be believed.
--
-- DDS 1.4, 2.2.4.1 (communication statuses), 2.2.4.2 (changes in status).
use Rattle.std.specs.Prelude.{◌≡◌, ℕ, ◌<◌, ◌≤◌, List, length, slice_get, Option, Some}
use Rattle.dds_notices.specs.declared.notice.Status.{Status}
use Rattle.dds_notices.specs.declared.notice.Status.TheVariants.{PublicationMatched, SubscriptionMatched}
use Rattle.dds_base.specs.Written.{LookedAt}
use Rattle.dds_machine.specs.Calls.{with_written}
use Rattle.dds_machine.specs.Matching.{writer_looked_at}
use Rattle.dds_ends.specs.Identity.{writer_identity}
use Rattle.rtps_reader.specs.Tracked.{Tracked}
use Rattle.dds_base.specs.declared.endpoint.Endpoint.{Endpoint}
use Rattle.dds_machine.specs.Matching.{attached_count, reader_looked_at}
use Rattle.dds_machine.specs.Noticing.{losses_of, seen_by}
use Rattle.dds_machine.specs.Part.{Reader, Writer, WriterProxy}
use Rattle.dds_protocol.specs.Contact.{Contact}
use Rattle.dds_ends.specs.declared.marks.Marks.{Marks}
use Rattle.dds_ends.specs.declared.marks.ReaderMark.{ReaderMark}
use Rattle.dds_ends.specs.declared.marks.WriterMark.{WriterMark}
use Rattle.dds_ends.specs.Kept.{ReaderKept, WriterKept}
use Rattle.dds_ends.specs.Standing.{ReaderStands, WriterStands}

-- a mark of a reader that knew these writers: how much had happened, and how many it was matched with
pub record IsMarkOf (mark : ReaderMark) (rows : List WriterProxy) (r : Reader) : Type 0 where
  pub happened : mark.happened ≡ length r.happened
  pub here : mark.here ≡ attached_count rows

-- so it is of each reader that the values stand for
abbrev pub MarksReader : ReaderKept → ReaderMark → Type 0
MarksReader kept mark = (proxies : List WriterProxy) (r : Reader) (tracked : Endpoint → Tracked)
    → ReaderStands kept proxies r tracked → IsMarkOf mark proxies r

-- a mark of a writer: how often its liveliness was lost, and how many readers were matched with it
pub record IsWriterMarkOf (mark : WriterMark) (w : Writer) : Type 0 where
  pub losses : mark.losses ≡ losses_of w
  pub matched : mark.matched ≡ length w.matched

-- so it is of each writer that the values stand for
abbrev pub MarksWriter : WriterKept → WriterMark → Type 0
MarksWriter kept mark = (w : Writer) (answered : Endpoint → Contact) → WriterStands kept w answered
    → IsWriterMarkOf mark w

-- the first so many of these are marked so, and the others not at all
abbrev pub Marked : {K M : Type 0} → (K → M → Type 0) → M → List K → ℕ → List M → Type 0
Marked {K} {M} Marks nothing kept n marks = (i : ℕ) (mark : M) → slice_get marks i ≡ Some mark
    → (i < n → (k : K) → slice_get kept i ≡ Some k → Marks k mark) × (n ≤ i → mark ≡ nothing)

-- the first so many of these writers are marked, the others by zeros
abbrev pub MarksWriters : List WriterKept → ℕ → List WriterMark → Type 0
MarksWriters kept n marks = Marked MarksWriter (record { losses = 0; matched = 0 }) kept n marks

-- the first so many of these readers are marked, the others by zeros
abbrev pub MarksReaders : List ReaderKept → ℕ → List ReaderMark → Type 0
MarksReaders kept n marks = Marked MarksReader (record { happened = 0; here = 0 }) kept n marks

-- what was raised at a reader, by the writers that it knew and what it was before, and by those and what it is now
abbrev pub Raised : Type 0
Raised = List WriterProxy → Reader → List WriterProxy → Reader → Option Status

-- the same where the writers have no say
abbrev pub by_reader : (Reader → Reader → Option Status) → Raised
by_reader raised known before rows r = raised before r

-- a status of a reader, which is what was raised there by what it was before
abbrev pub RaisesSo : Raised → ReaderKept → ReaderMark → Option Status → Type 0
RaisesSo raised kept mark status = (known : List WriterProxy) (before : Reader) → IsMarkOf mark known before
    → (proxies : List WriterProxy) (r : Reader) (tracked : Endpoint → Tracked) → ReaderStands kept proxies r tracked
    → status ≡ raised known before proxies r

-- a reader that knows these writers, once a status of it was looked at
abbrev pub seen_at : List WriterProxy → Reader → Status → Reader
seen_at rows r (SubscriptionMatched values) = reader_looked_at rows r
seen_at rows r status = record r { seen = seen_by r status }

-- a status of a reader was looked at
abbrev pub SeesStatus : ReaderKept → Status → ReaderKept → Type 0
SeesStatus old status new =
    (proxies : List WriterProxy) (r : Reader) (tracked : Endpoint → Tracked) → ReaderStands old proxies r tracked
    → ReaderStands new proxies (seen_at proxies r status) tracked

-- a status of a writer, which is what was raised there by what it was before
abbrev pub WriterRaisesSo : (Writer → Writer → Option Status) → WriterKept → WriterMark → Option Status → Type 0
WriterRaisesSo raised kept mark status = (before : Writer) → IsWriterMarkOf mark before
    → (w : Writer) (answered : Endpoint → Contact) → WriterStands kept w answered → status ≡ raised before w

-- the writer, once this status of it was looked at
abbrev pub writer_seen_by : Writer → Status → Writer
writer_seen_by w (PublicationMatched values) = writer_looked_at w
writer_seen_by w other = with_written w LookedAt

-- a status of a writer was looked at, and nothing else
pub record WriterSeesStatus (old : WriterKept) (status : Status) (new : WriterKept) : Type 0 where
  pub same : writer_identity new ≡ writer_identity old
  pub stands : (w : Writer) (answered : Endpoint → Contact) → WriterStands old w answered
      → WriterStands new (writer_seen_by w status) answered
