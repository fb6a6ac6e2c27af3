-- What a datagram holds that would be nothing to a peer, by what the peer keeps. Inner functions alone cite this: nothing
-- here has to be believed.
--
-- RTPS 2.5, 8.3.4 (the message receiver), 8.4.10 (StatefulReader, WriterProxy).
use Rattle.std.specs.Prelude.{◌≡◌, ◌≤◌, ℕ, Bool, List, slice_get, Option, Some}
use Rattle.dds_protocol.specs.Roster.{Roster}
use Rattle.dds_base.specs.declared.guid.EntityId.{EntityId}
use Rattle.dds_base.specs.declared.guid.GuidPrefix.{GuidPrefix}
use Rattle.rtps_wire.specs.declared.acknack.AckNack.{AckNack as AckNackBody}
use Rattle.rtps_wire.specs.declared.submessage.Submessage.{Submessage}
use Rattle.rtps_wire.specs.Messages.{ReadsAll}
use Rattle.rtps_wire.specs.Submessages.{Reads}
use Rattle.dds_base.specs.declared.endpoint.Endpoint.{Endpoint}
use Rattle.dds_protocol.specs.Claims.{Receiver, receiver_of, after_submessage}
use Rattle.dds_protocol.specs.Peer.{Peer}
use Rattle.dds_ends.specs.declared.matching.ReaderName.{ReaderName}
use Rattle.dds_core.specs.declared.observing.Observed.{Observed}
use Rattle.dds_ends.specs.Answering.{IsFrom}
use Rattle.dds_ends.specs.Kept.{ReaderKept, WriterKept}
use Rattle.dds_core.specs.Kept.{PeerKept}
use Rattle.dds_core.specs.Observing.{SumsInTurn, OldData, OldHeartbeats, OldTo, ToNobody, one_where}
use Rattle.dds_ends.specs.Readiness.{IsNamedFor, NamedBy}
use Rattle.dds_core.specs.Standing.{StandsFor}
use Rattle.dds_ends.specs.ObservingKept.{IsOldIn}

-- the same as a number
abbrev pub CountsOld : GuidPrefix → Option Endpoint → Receiver → Submessage → ReaderKept → ℕ → Type 0
CountsOld own of at submessage kept n = (old : Bool) × IsOldIn own of at submessage kept old × (n ≡ one_where old)

-- for each peer that the values stand for, to so many of its readers the submessage is old, whom it names
abbrev pub OldToReaders : PeerKept → Option Endpoint → Receiver → Submessage → ℕ → Type 0
OldToReaders kept of at submessage n =
    (roster : Roster) (peer : Peer) → StandsFor kept roster peer → (reader_id writer_id : EntityId)
    → NamedBy submessage reader_id writer_id → OldTo roster kept.prefix peer of at reader_id writer_id submessage n

-- a submessage that names these is for the reader of this index
pub record IsNamedReader (own : GuidPrefix) (at : Receiver) (reader_id writer_id : EntityId) (readers : List ReaderKept)
    (index : ℕ) : Type 0 where
  pub reader : ReaderKept
  pub there : slice_get readers index ≡ Some reader
  pub row : ℕ
  pub named : IsNamedFor own reader at reader_id writer_id row

-- it is for none of these readers
abbrev pub NamesNoReader : GuidPrefix → Receiver → EntityId → EntityId → List ReaderKept → Type 0
NamesNoReader own at reader_id writer_id readers =
    (i : ℕ) (k : ReaderKept) → slice_get readers i ≡ Some k → (row : ℕ)
    → IsNamedFor own k at reader_id writer_id row → ⊥

-- an ACKNACK is for the writer of this entity, and from its reader of this row
pub record IsFromReader (own : GuidPrefix) (entity : EntityId) (at : Receiver) (a : AckNackBody)
    (names : List ReaderName) (row : ℕ) : Type 0 where
  pub name : ReaderName
  pub there : slice_get names row ≡ Some name
  pub from : IsFrom own entity at a name

-- it is not for that writer, or from none of these readers
abbrev pub IsFromNobody : GuidPrefix → EntityId → Receiver → AckNackBody → List ReaderName → Type 0
IsFromNobody own entity at a names =
    (row : ℕ) (name : ReaderName) → slice_get names row ≡ Some name → IsFrom own entity at a name → ⊥

-- it is for the writer of this index, and from a reader of that
pub record IsNamedWriter (own : GuidPrefix) (at : Receiver) (a : AckNackBody) (writers : List WriterKept)
    (index : ℕ) : Type 0 where
  pub writer : WriterKept
  pub at_writer : slice_get writers index ≡ Some writer
  pub row : ℕ
  pub from : IsFromReader own writer.entity at a writer.readers row

-- it is so of none of these writers
abbrev pub NamesNoWriter : GuidPrefix → Receiver → AckNackBody → List WriterKept → Type 0
NamesNoWriter own at a writers =
    (i : ℕ) (k : WriterKept) → slice_get writers i ≡ Some k → IsFromNobody own k.entity at a k.readers

-- for each peer that the values stand for this is 1 where the submessage speaks, and concerns nobody there, else 0
abbrev pub ToNobodyOf : PeerKept → Receiver → Submessage → ℕ → Type 0
ToNobodyOf kept at submessage n =
    (roster : Roster) (peer : Peer) → StandsFor kept roster peer
    → ToNobody roster kept.prefix peer at submessage n

-- what one submessage holds, at a peer
pub record ObservesOne (roster : Roster) (own : GuidPrefix) (peer : Peer) (of : Option Endpoint) (at : Receiver)
    (submessage : Submessage) (seen : Observed) : Type 0 where
  pub old_data : OldData roster own peer of at submessage seen.old_data
  pub old_heartbeats : OldHeartbeats roster own peer of at submessage seen.old_heartbeats
  pub to_nobody : ToNobody roster own peer at submessage seen.to_nobody

-- the same, for each peer that the values stand for
abbrev pub ObservesSubmessage : PeerKept → Option Endpoint → Receiver → Submessage → Observed → Type 0
ObservesSubmessage kept of at submessage seen =
    (roster : Roster) (peer : Peer) → StandsFor kept roster peer
    → ObservesOne roster kept.prefix peer of at submessage seen

-- the same of the submessage of this id, these flags and this body, which leaves this receiver
pub record ObservesFrame (kept : PeerKept) (of : Option Endpoint) (at : Receiver) (id flags : ℕ) (body : List ℕ)
    (seen : Observed) (left : Receiver) : Type 0 where
  pub submessage : Submessage
  pub is_read : Reads id flags body submessage
  pub observes : ObservesSubmessage kept of at submessage seen
  pub leaves : left ≡ after_submessage kept.prefix at submessage

-- these bytes are submessages, and this is the sum of what they say
pub record SumsBody (own : GuidPrefix) (says : Receiver → Submessage → ℕ → Type 0) (at : Receiver) (body : List ℕ)
    (n : ℕ) : Type 0 where
  pub submessages : List Submessage
  pub left : List ℕ
  pub is_read : ReadsAll body submessages left
  pub sums : SumsInTurn own says at submessages n

-- what the submessages that follow the header of a message hold, at a peer
pub record ObservesAll (roster : Roster) (own source : GuidPrefix) (peer : Peer) (of : Option Endpoint)
    (body : List ℕ) (seen : Observed) : Type 0 where
  pub old_data : SumsBody own (OldData roster own peer of) (receiver_of source) body seen.old_data
  pub old_heartbeats : SumsBody own (OldHeartbeats roster own peer of) (receiver_of source) body seen.old_heartbeats
  pub to_nobody : SumsBody own (ToNobody roster own peer) (receiver_of source) body seen.to_nobody

-- the same, for each peer that the values stand for
abbrev pub ObservesBody : PeerKept → Option Endpoint → GuidPrefix → List ℕ → Observed → Type 0
ObservesBody kept of source body seen =
    (roster : Roster) (peer : Peer) → StandsFor kept roster peer
    → ObservesAll roster kept.prefix source peer of body seen

-- each count is at most this
pub record AtMost (most : ℕ) (seen : Observed) : Type 0 where
  pub old_data : seen.old_data ≤ most
  pub old_heartbeats : seen.old_heartbeats ≤ most
  pub to_nobody : seen.to_nobody ≤ most
