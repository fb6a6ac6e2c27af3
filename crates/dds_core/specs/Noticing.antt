-- What is kept of a peer before an event, and what telling its listeners does. Inner functions alone cite this:
-- nothing here has to be believed.
--
-- DDS 1.4, 2.2.4.1 (communication statuses), 2.2.4.3 (access through listeners).
use Rattle.std.specs.Prelude.{◌≡◌, ℕ, suc, List, slice_get, Some}
use Rattle.dds_protocol.specs.Roster.{Roster}
use Rattle.dds_notices.specs.declared.notice.Notice.{Notice}
use Rattle.dds_notices.specs.Listeners.{ByEntity, Slotted, StandsFor as SlotsStandFor}
use Rattle.dds_machine.specs.Part.{Part, own_proxies, own_reader, own_writer}
use Rattle.dds_protocol.specs.Peer.{Peer}
use Rattle.dds_ends.specs.declared.marks.Marks.{Marks}
use Rattle.dds_ends.specs.declared.marks.ReaderMark.{ReaderMark}
use Rattle.dds_ends.specs.declared.marks.WriterMark.{WriterMark}
use Rattle.dds_core.specs.Kept.{PeerKept}
use Rattle.dds_core.specs.Standing.{StandsFor}
use Rattle.dds_ends.specs.Noticing.{IsMarkOf, IsWriterMarkOf}

-- the marks of a peer's part
pub record AreMarksOf (marks : Marks) (part : Part) : Type 0 where
  pub writers : (i : ℕ) (mark : WriterMark) → slice_get marks.writers i ≡ Some mark
      → IsWriterMarkOf mark (own_writer part (suc i))
  pub readers : (i : ℕ) (mark : ReaderMark) → slice_get marks.readers i ≡ Some mark
      → IsMarkOf mark (own_proxies part (suc i)) (own_reader part (suc i))

-- so it is for each state that the values stand for
abbrev pub MarksPeer : PeerKept → Marks → Type 0
MarksPeer kept marks = (roster : Roster) (peer : Peer) → StandsFor kept roster peer → AreMarksOf marks peer.part

-- for each state that a peer stands for, with the places that its listeners stand for, both stand for what the change
-- makes of it
abbrev pub Tells : {L : Type 0} → (L → List Notice) → (L → ℕ) → (L → Notice → L → Type 0) → (Part → Part) → PeerKept
    → Slotted L → PeerKept
    → Slotted L → Type 0
Tells {L} notices capacity becomes change old slots new after =
    (given : ByEntity L) (roster : Roster) (peer : Peer) → StandsFor old roster peer
    → SlotsStandFor notices capacity becomes given slots peer.part.dds.listeners
    → StandsFor new roster (record peer { part = change peer.part })
    × SlotsStandFor notices capacity becomes given after (change peer.part).dds.listeners
