-- How a peer tries the places of one of its readers again, one row after another. Inner functions alone cite this:
-- nothing here has to be believed.
--
-- RTPS 2.5, 8.4.12 (reliable StatefulReader).
use Rattle.std.specs.Prelude.{◌≡◌, ◌++◌, ℕ, suc, List, slice_get, Some}
use Rattle.dds_protocol.specs.Roster.{Roster}
use Rattle.dds_base.specs.declared.endpoint.Endpoint.{Endpoint}
use Rattle.dds_machine.specs.declared.reply.Move.{Move}
use Rattle.dds_machine.specs.declared.reply.Report.{Report}
use Rattle.dds_protocol.specs.Peer.{Peer, state_of}
use Rattle.dds_protocol.specs.Protocol.{State, stands_to}
use Rattle.dds_protocol.specs.Resuming.{GoesAgain, MayGoAgain, Resumes}
use Rattle.dds_core.specs.declared.effects.Effects.{Effects}
use Rattle.dds_ends.specs.declared.matching.WriterName.{WriterName}
use Rattle.dds_ends.specs.declared.reader_told.Ready.{Ready}
use Rattle.dds_ends.specs.declared.reader_told.Told.TheVariants.{Again}
use Rattle.dds_ends.specs.Kept.{ReaderKept}
use Rattle.dds_core.specs.Kept.{PeerKept}
use Rattle.dds_core.specs.Receiving.{with_state}
use Rattle.dds_core.specs.Standing.{StandsFor}

-- that the place at the writer of this row is tried again, as what is ready for a reader
abbrev pub again : ℕ → Ready
again row = record { row = row; told = Again }

-- the peer has a reader of this index, which knows a writer in this row
pub record HasRow (kept : PeerKept) (index row : ℕ) : Type 0 where
  pub reader : ReaderKept
  pub at : slice_get kept.readers index ≡ Some reader
  pub name : WriterName
  pub at_row : slice_get reader.writers row ≡ Some name

-- the reader of this index knows the writers that it knew, in their rows
abbrev pub SameRows : ℕ → PeerKept → PeerKept → Type 0
SameRows index old new = (k : ReaderKept) → slice_get old.readers index ≡ Some k
    → (now : ReaderKept) × (slice_get new.readers index ≡ Some now) × (now.writers ≡ k.writers)

-- for a state that the old values stand for, the place of a reader at a writer was tried again by the rules
pub record Tried (roster : Roster) (peer : Peer) (writer : Endpoint) (reader : ℕ) (made : List Move)
    (new : PeerKept) : Type 0 where
  pub state : State
  pub goes : GoesAgain (stands_to (state_of peer) writer reader) (state_of peer) writer reader made state
  pub stands : StandsFor new roster (with_state peer state)

-- the place of the reader of this index at the writer of this row was tried again, after other moves
pub record TriesRow (old : PeerKept) (index row : ℕ) (effects : Effects) (new : PeerKept)
    (after : Effects) : Type 0 where
  pub made : List Move
  pub after_is : after.moves.items ≡ effects.moves.items ++ made
  pub tries : (roster : Roster) (peer : Peer) → StandsFor old roster peer → (has : HasRow old index row)
      → Tried roster peer has.name.writer (suc index) made new
  pub rows : SameRows index old new

-- for each state that the old values stand for, a try of the place at the row may need memory
abbrev pub RowNeedsMemory : PeerKept → ℕ → ℕ → Type 0
RowNeedsMemory old index row =
    (roster : Roster) (peer : Peer) → StandsFor old roster peer → (has : HasRow old index row)
    → MayGoAgain (state_of peer) has.name.writer (suc index)

-- for a state that the old values stand for, the places of a reader were tried again by the rules
pub record Resumed (roster : Roster) (peer : Peer) (reader : ℕ) (report : Report) (new : PeerKept) : Type 0 where
  pub state : State
  pub resumes : Resumes reader (state_of peer) report state
  pub stands : StandsFor new roster (with_state peer state)

-- the same of the reader of this index, said of each state that the old values stand for
abbrev pub ResumesAll : PeerKept → ℕ → Report → PeerKept → Type 0
ResumesAll old index report new =
    (roster : Roster) (peer : Peer) → StandsFor old roster peer → Resumed roster peer (suc index) report new
