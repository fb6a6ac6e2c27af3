-- What a peer's writers do at an ACKNACK, by what the peer keeps. Inner functions alone cite this: nothing here has
-- to be believed.
--
-- RTPS 2.5, 8.4.7 (ReaderProxy: requested_changes), 8.4.9 (reliable StatefulWriter), 8.3.8 (AckNack).
use Rattle.std.specs.Prelude.{◌≡◌, ℕ, suc, ◌+◌, Bool, List, ◌++◌, length, take, set, slice_get, Option, Some}
use Rattle.dds_protocol.specs.Roster.{Roster}
use Rattle.dds_base.specs.declared.guid.GuidPrefix.{GuidPrefix}
use Rattle.rtps_sets.specs.NumberSet.{NumberSet}
use Rattle.rtps_wire.specs.declared.acknack.AckNack.{AckNack as AckNackBody}
use Rattle.rtps_writer.specs.Standing.{StandsFor as RtpsStandsFor}
use Rattle.rtps_writer.specs.WriterState.{WriterState}
use Rattle.dds_machine.specs.declared.reply.Move.{Move}
use Rattle.dds_protocol.specs.Claims.{Receiver}
use Rattle.dds_protocol.specs.Peer.{Peer, state_of}
use Rattle.dds_protocol.specs.DueMessages.{Due}
use Rattle.dds_protocol.specs.Protocol.{State, InTurn, WriterTakes}
use Rattle.dds_ends.specs.declared.answering.Room.{Room}
use Rattle.dds_core.specs.declared.effects.Effects.{Effects}
use Rattle.dds_ends.specs.declared.matching.ReaderName.{ReaderName}
use Rattle.dds_ends.specs.declared.sending.Announced.{Announced}
use Rattle.dds_ends.specs.Beating.{AddsTo}
use Rattle.dds_ends.specs.Kept.{WriterKept}
use Rattle.dds_core.specs.Kept.{PeerKept}
use Rattle.dds_ends.specs.Identity.{writer_identity}
use Rattle.dds_core.specs.Receiving.{with_state}
use Rattle.dds_core.specs.Standing.{StandsFor}
use Rattle.dds_ends.specs.Answering.{is_beyond, IsAskedAt, IsUnasked, HasRoom, AreRooms, TakesAckNack, acknack_moves}

-- ---- whom an ACKNACK is from

-- it is from a reader of the writer of this index, and is heeded
pub record IsAskedWriter (own : GuidPrefix) (at : Receiver) (a : AckNackBody) (writers : List WriterKept)
    (index : ℕ) : Type 0 where
  pub writer : WriterKept
  pub at_writer : slice_get writers index ≡ Some writer
  pub row : ℕ
  pub asked : IsAskedAt own at a writer row

-- it is so of none of these writers
abbrev pub AsksNone : GuidPrefix → Receiver → AckNackBody → List WriterKept → Type 0
AsksNone own at a writers = (i : ℕ) (k : WriterKept) → slice_get writers i ≡ Some k → IsUnasked own at a k

-- ---- the room for its answers

-- each room that is there is such a one
abbrev pub HaveRoom : NumberSet → List (Option Room) → Type 0
HaveRoom numbers rooms = (i : ℕ) (room : Room) → slice_get rooms i ≡ Some (Some room) → HasRoom numbers room

-- ---- what a peer does

-- the writer of this index, which keeps this, took the ACKNACK of its reader of this row
pub record RowTook (old : PeerKept) (index row : ℕ) (a : AckNackBody) (k : WriterKept) (name : ReaderName)
    (moves : List Move) (sent : Announced) (new : PeerKept) (after : List Move) (gone : Announced) : Type 0 where
  pub acknowledged : Option ℕ
  pub strange : Bool
  pub strange_is : (s : WriterState) → RtpsStandsFor k.writer s → strange ≡ is_beyond s a.reader_sn_state.base
  pub writer : WriterKept
  pub same : writer_identity writer ≡ writer_identity k
  pub matches : writer.matches ≡ k.matches
  pub answers : TakesAckNack k old.prefix row a sent writer acknowledged gone
  pub new_is : new ≡ record old { writers = set old.writers index writer }
  pub after_is : after ≡ moves ++ acknack_moves (index + 1) name.reader acknowledged strange

-- the writer of this index took the ACKNACK of its reader of this row, if there are both
abbrev pub TakesRow : PeerKept → ℕ → ℕ → AckNackBody → Effects → PeerKept → Effects → Type 0
TakesRow old index row a effects new after =
    (k : WriterKept) (name : ReaderName) → slice_get old.writers index ≡ Some k → slice_get k.readers row ≡ Some name
    → RowTook old index row a k name effects.moves.items effects.sent new after.moves.items after.sent

-- for each state that the old values stand for, the writer of this index took the ACKNACK as to each of these readers
pub record RowsTook (roster : Roster) (own : GuidPrefix) (at : Receiver) (a : AckNackBody) (index : ℕ)
    (names : List ReaderName) (peer : Peer) (made : List Move) (sent : Announced) (new : PeerKept)
    (gone : Announced) : Type 0 where
  pub state : State
  pub dues : List Due
  pub turn : InTurn (λ (n : ReaderName). WriterTakes roster own peer.number at a (suc index) n.reader) names
      (state_of peer) made dues state
  pub stands : StandsFor new roster (with_state peer state)
  pub adds : AddsTo dues sent gone

-- so many of the readers of the writer of this index, which keeps this, were answered
pub record TakesRows (old : PeerKept) (index : ℕ) (a : AckNackBody) (k : WriterKept) (rooms : List (Option Room))
    (count : ℕ) (effects : Effects) (now : PeerKept) (after : Effects) : Type 0 where
  pub made : List Move
  pub after_is : after.moves.items ≡ effects.moves.items ++ made
  pub takes : (at : Receiver) → AreRooms old.prefix k.entity at a k.readers rooms → (roster : Roster) (peer : Peer)
      → StandsFor old roster peer
      → RowsTook roster old.prefix at a index (take count k.readers) peer made effects.sent now after.sent
  pub there : WriterKept
  pub at : slice_get now.writers index ≡ Some there
  pub same : writer_identity there ≡ writer_identity k
  pub prefix : now.prefix ≡ old.prefix
  pub others : length now.writers ≡ length old.writers

-- the writer of this index took the ACKNACK as to each of its readers, if there is such a writer
abbrev pub TakesAllRows : PeerKept → ℕ → AckNackBody → List (Option Room) → Effects → PeerKept → Effects → Type 0
TakesAllRows old index a rooms effects new after =
    (k : WriterKept) → slice_get old.writers index ≡ Some k
    → TakesRows old index a k rooms (length k.readers) effects new after
