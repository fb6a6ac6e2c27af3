-- How a peer takes up the submessages of a packet: what one tells the readers that it names is made ready for each of
-- them before the first of them is told; so it is taken up by all of them or by none. Inner functions alone cite this:
-- nothing here has to be believed.
--
-- RTPS 2.5, 8.3.4 (the message receiver), 8.4.12 (the behaviour of a reliable StatefulReader).
use Rattle.std.specs.Prelude.{◌≡◌, ◌+◌, ◌≤◌, ℕ, Bool, zero, suc, List, [], ◌∷◌, ◌++◌, set, length, slice_get, Option, None, Some, Result, OnErr, IfErr}
use Rattle.dds_base.specs.declared.code.Code.{Code}
use Rattle.dds_base.specs.declared.code.Code.TheVariants.{Memory}
use Rattle.dds_protocol.specs.Roster.{Roster}
use Rattle.dds_base.specs.declared.guid.GuidPrefix.{GuidPrefix}
use Rattle.dds_base.specs.Kept.{numbers_from}
use Rattle.rtps_reader.specs.declared.step.Step.{Step}
use Rattle.rtps_reader.specs.Tracked.{Tracked}
use Rattle.rtps_reader.specs.Reader.{Tracks}
use Rattle.rtps_wire.specs.declared.announced.Announcement.{Announcement}
use Rattle.rtps_wire.specs.declared.submessage.Submessage.{Submessage}
use Rattle.rtps_wire.specs.declared.submessage.Submessage.TheVariants.{InfoDst, InfoTs, Data}
use Rattle.rtps_wire.specs.Messages.{ReadsAll}
use Rattle.rtps_wire.specs.Submessages.{Reads}
use Rattle.dds_machine.specs.declared.reply.Move.{Move}
use Rattle.dds_machine.specs.declared.reply.Report.{Report}
use Rattle.dds_protocol.specs.Claims.{Receiver, after_submessage, receiver_of}
use Rattle.dds_protocol.specs.Peer.{Peer, state_of}
use Rattle.dds_protocol.specs.DueMessages.{Due, AreSent, acknacks_due}
use Rattle.dds_protocol.specs.Protocol.{State, InTurn, ReaderTakes, Takes, MayNeedMemory, FollowsMessage, TakesPacket}
use Rattle.dds_core.specs.declared.effects.Effects.{Effects}
use Rattle.dds_ends.specs.declared.matching.WriterName.{WriterName}
use Rattle.dds_ends.specs.declared.reader_told.Ready.{Ready}
use Rattle.dds_ends.specs.declared.sending.Announced.{Announced}
use Rattle.dds_ends.specs.Beating.{AddsTo}
use Rattle.dds_ends.specs.Sending.{AreMessages}
use Rattle.dds_ends.specs.Kept.{ReaderKept}
use Rattle.dds_core.specs.Kept.{PeerKept}
use Rattle.dds_core.specs.Standing.{StandsFor}
use Rattle.dds_ends.specs.Readiness.{CanTake, SameReader, TakesTold}
use Rattle.dds_core.specs.Readiness.{AreReady, moves_of}

-- nothing was done yet, and what is moved is to be kept twice, or once
pub record NothingDone (twice : Bool) (effects : Effects) : Type 0 where
  pub moves : effects.moves.items ≡ []
  pub kept_twice : effects.moves.twice ≡ twice
  pub packets : effects.sent.packets.items ≡ []
  pub unsent : effects.sent.unsent ≡ 0

-- the reader of this index can be told what is ready
abbrev pub CanTakeAt : List ReaderKept → ℕ → Ready → Type 0
CanTakeAt readers index ready = (k : ReaderKept) × (slice_get readers index ≡ Some k) × CanTake k ready

-- each reader for which something is ready can be told that
abbrev pub AllCanTake : List ReaderKept → List (Option Ready) → Type 0
AllCanTake readers ready = (i : ℕ) (one : Ready) → slice_get ready i ≡ Some (Some one) → CanTakeAt readers i one

-- nothing is ready for any reader before the one of this index, which is the last, and this is for that one
abbrev pub only_last : ℕ → Option Ready → List (Option Ready)
only_last zero one = one ∷ []
only_last (suc index) one = None ∷ only_last index one

-- the reader of this index was told what was ready, and the ACKNACK that is then due was sent
pub record TookAt (old : PeerKept) (index : ℕ) (ready : Ready) (k : ReaderKept) (moves : List Move) (sent : Announced)
    (new : PeerKept) (after : List Move) (gone : Announced) : Type 0 where
  pub name : WriterName
  pub at_name : slice_get k.writers ready.row ≡ Some name
  pub from : ℕ
  pub place : (t : Tracked) → Tracks k.reader ready.row t → from ≡ t.place
  pub step : Step
  pub reader : ReaderKept
  pub told : TakesTold k ready old.moment step reader
  pub same : SameReader k reader
  pub new_is : new ≡ record old { readers = set old.readers index reader }
  pub after_is : after ≡ moves ++ moves_of name.writer (index + 1) from step
  pub answer : AddsTo (acknacks_due old.prefix name.guid.prefix name.writer.peer k.entity name.guid.entity step.acknack)
      sent gone

-- the reader of this index, if there is one, was told what was ready, and the ACKNACK that is then due was sent
abbrev pub TakesAt : PeerKept → ℕ → Ready → Effects → PeerKept → Effects → Type 0
TakesAt old index ready effects new after =
    (k : ReaderKept) → slice_get old.readers index ≡ Some k
    → TookAt old index ready k effects.moves.items effects.sent new after.moves.items after.sent

-- what this state of a peer is with another part, and other knowledge
abbrev pub with_state : Peer → State → Peer
with_state peer state = record peer { part = state.part; known = state.known }

-- for each state that the old values stand for, so many of its readers took the submessage up, one after the other
pub record ReadersTook (roster : Roster) (own : GuidPrefix) (at : Receiver) (submessage : Submessage) (count : ℕ)
    (peer : Peer) (made : List Move) (sent : Announced) (new : PeerKept) (gone : Announced) : Type 0 where
  pub state : State
  pub dues : List Due
  pub turn : InTurn (ReaderTakes roster own peer.number at submessage) (numbers_from 1 count)
      (state_of peer) made dues state
  pub stands : StandsFor new roster (with_state peer state)
  pub adds : AddsTo dues sent gone

-- the same, said of each state that the old values stand for
abbrev pub ReadersTake : PeerKept → Receiver → Submessage → ℕ → List Move → Announced → PeerKept → Announced → Type 0
ReadersTake old at submessage count made sent new gone =
    (roster : Roster) (peer : Peer) → StandsFor old roster peer
    → ReadersTook roster old.prefix at submessage count peer made sent new gone

-- each reader is told what was ready for it
pub record TakesAll (old : PeerKept) (ready : List (Option Ready)) (effects : Effects) (new : PeerKept)
    (after : Effects) : Type 0 where
  pub made : List Move
  pub after_is : after.moves.items ≡ effects.moves.items ++ made
  pub takes : (at : Receiver) (submessage : Submessage) → AreReady old.prefix at submessage old.readers ready
      → ReadersTake old at submessage (length old.readers) made effects.sent new after.sent

-- the readers are told what a submessage says, after other moves
pub record TellsReaders (old : PeerKept) (at : Receiver) (submessage : Submessage) (effects : Effects) (new : PeerKept)
    (after : Effects) : Type 0 where
  pub made : List Move
  pub after_is : after.moves.items ≡ effects.moves.items ++ made
  pub takes : ReadersTake old at submessage (length old.readers) made effects.sent new after.sent

-- for each state that the old values stand for, a submessage was taken up, and what was then due was sent
pub record TookSubmessage (roster : Roster) (own : GuidPrefix) (at : Receiver) (submessage : Submessage) (peer : Peer)
    (made : List Move) (sent : Announced) (new : PeerKept) (gone : Announced) : Type 0 where
  pub state : State
  pub dues : List Due
  pub takes : Takes roster own peer.number at submessage (state_of peer) made dues state
  pub stands : StandsFor new roster (with_state peer state)
  pub adds : AddsTo dues sent gone

-- the same, after other moves
pub record TakesOneMore (old : PeerKept) (at : Receiver) (submessage : Submessage) (effects : Effects) (new : PeerKept)
    (after : Effects) : Type 0 where
  pub made : List Move
  pub after_is : after.moves.items ≡ effects.moves.items ++ made
  pub takes : (roster : Roster) (peer : Peer) → StandsFor old roster peer
      → TookSubmessage roster old.prefix at submessage peer made effects.sent new after.sent

-- the submessage of this id, these flags and this body was taken up, after other moves, and leaves this receiver
pub record TakesFrame (old : PeerKept) (at : Receiver) (id flags : ℕ) (body : List ℕ) (effects : Effects)
    (new : PeerKept) (after : Effects) (left : Receiver) : Type 0 where
  pub submessage : Submessage
  pub is_read : Reads id flags body submessage
  pub takes : TakesOneMore old at submessage effects new after
  pub leaves : left ≡ after_submessage old.prefix at submessage

-- for each state that the old values stand for, the submessage may need memory
abbrev pub NeedsMemory : PeerKept → Receiver → Submessage → Type 0
NeedsMemory old at submessage =
    (roster : Roster) (peer : Peer) → StandsFor old roster peer
    → MayNeedMemory roster old.prefix peer.number at submessage (state_of peer)

-- so may the one of this id, these flags and this body
pub record FrameNeedsMemory (old : PeerKept) (at : Receiver) (id flags : ℕ) (body : List ℕ) : Type 0 where
  pub submessage : Submessage
  pub is_read : Reads id flags body submessage
  pub needs : NeedsMemory old at submessage

-- the new values stand for what the old ones stood for
abbrev pub StandsAsWell : PeerKept → PeerKept → Type 0
StandsAsWell old new = (roster : Roster) (peer : Peer) → StandsFor old roster peer → StandsFor new roster peer

-- more was done: what is moved is kept twice, or once, as before; so many more packets found no memory, at most; and
-- what is sent are messages, if what was sent before was. What was moved and sent, others say.
pub record GoOn (more : ℕ) (effects after : Effects) : Type 0 where
  pub twice : after.moves.twice ≡ effects.moves.twice
  pub few : after.sent.unsent ≤ effects.sent.unsent + more
  pub messages : AreMessages effects.sent.packets.items → AreMessages after.sent.packets.items

-- what is so of any submessage that is taken up, and how it may be refused: at most so many more packets find no memory
pub record KeepsPeer (more : ℕ) (old : PeerKept) (effects : Effects) (new : PeerKept) (after : Effects)
    (answer : Result (Unit {0}) Code) : Type 0 where
  -- the prefix stays
  pub prefix : new.prefix ≡ old.prefix
  -- so is how the moves are kept, and how many packets found no memory is bounded
  pub on : GoOn more effects after
  -- a refusal leaves all that the peer stands for, moves nothing and sends nothing
  pub err : OnErr answer
      (StandsAsWell old new × (after.moves.items ≡ effects.moves.items) × (after.sent ≡ effects.sent))
  -- it is refused for want of memory alone
  pub memory : IfErr answer (λ code. code ≡ Memory)

-- these bytes are submessages, which are taken up from this index on
pub record FollowsBody (roster : Roster) (own : GuidPrefix) (peer index : ℕ) (at : Receiver) (body : List ℕ)
    (old : State) (moves : List Move) (refused : Option ℕ) (dues : List Due) (new : State) : Type 0 where
  pub submessages : List Submessage
  pub left : List ℕ
  pub is_read : ReadsAll body submessages left
  pub follows : FollowsMessage roster own peer index at submessages old moves refused dues new

-- the bytes are the three submessages that announce a write, and what is left where reading ends
abbrev pub Announces : List ℕ → Announcement → Type 0
Announces body it =
    (left : List ℕ) × ReadsAll body (InfoDst it.destination ∷ InfoTs (Some it.moment) ∷ Data it.change ∷ []) left

-- for each state that the old values stand for, the submessages that follow the header of a message are taken up with
-- this report, and what is then due is sent
pub record TookBody (roster : Roster) (peer : Peer) (own source : GuidPrefix) (body : List ℕ) (report : Report)
    (new : PeerKept) (gone : Announced) : Type 0 where
  pub state : State
  pub dues : List Due
  pub follows : FollowsBody roster own peer.number 0 (receiver_of source) body (state_of peer)
      report.moves report.refused dues state
  pub stands : StandsFor new roster (with_state peer state)
  pub sent : AreSent dues gone.packets.items gone.unsent

-- the same, said of each state that the old values stand for
abbrev pub TakesBody : PeerKept → GuidPrefix → List ℕ → Report → PeerKept → Announced → Type 0
TakesBody old source body report new gone =
    (roster : Roster) (peer : Peer) → StandsFor old roster peer
    → TookBody roster peer old.prefix source body report new gone

-- for each state that the old values stand for, this is what is done with a packet
pub record ReceivedPacket (roster : Roster) (peer : Peer) (bytes : List ℕ) (report : Report) (new : PeerKept)
    (gone : Announced) : Type 0 where
  pub state : State
  pub dues : List Due
  pub takes : TakesPacket roster peer.number bytes (state_of peer) report dues state
  pub stands : StandsFor new roster (with_state peer state)
  pub sent : AreSent dues gone.packets.items gone.unsent

-- the same, said of each state that the old values stand for
abbrev pub ReceivesPacket : PeerKept → List ℕ → Report → PeerKept → Announced → Type 0
ReceivesPacket old bytes report new gone =
    (roster : Roster) (peer : Peer) → StandsFor old roster peer → ReceivedPacket roster peer bytes report new gone
