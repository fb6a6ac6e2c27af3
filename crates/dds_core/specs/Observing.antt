-- What a datagram holds that would be nothing to a peer, as it stands before the datagram is delivered.
--
-- RTPS 2.5, 8.3.4 (the message receiver), 8.3.8 (Data: writerSN; Heartbeat: count), 8.4.10 (StatefulReader, WriterProxy).
use Rattle.std.specs.Prelude.{◌≡◌, ◌⊎◌, ℕ, ◌+◌, Bool, true, false, ◌&&◌, List, [], ◌∷◌, length, Option, IsSome}
use Rattle.dds_protocol.specs.Roster.{Roster}
use Rattle.dds_base.specs.declared.guid.EntityId.{EntityId}
use Rattle.dds_base.specs.declared.guid.GuidPrefix.{GuidPrefix}
use Rattle.dds_base.specs.Kept.{numbers_from}
use Rattle.rtps_wire.specs.declared.message.Message.{Message}
use Rattle.rtps_wire.specs.declared.submessage.Submessage.{Submessage}
use Rattle.rtps_wire.specs.declared.submessage.Submessage.TheVariants.{Data, Heartbeat, AckNack, Gap}
use Rattle.rtps_wire.specs.Messages.{ReadsMessage}
use Rattle.dds_base.specs.declared.endpoint.Endpoint.{Endpoint}
use Rattle.dds_machine.specs.Matching.{is_known}
use Rattle.dds_machine.specs.Part.{acknowledged_of, own_proxies, own_writer}
use Rattle.dds_protocol.specs.Claims.{Receiver, receiver_of, after_submessage, is_for, IsToReader, IsToWriter}
use Rattle.dds_protocol.specs.Peer.{Peer}
use Rattle.dds_protocol.specs.Protocol.{WhereMatched}
use Rattle.dds_core.specs.declared.observing.Observed.{Observed}
use Rattle.dds_ends.specs.Observing.{is_old, is_counted}

-- the sum of what each of these says
abbrev pub Sums : {X : Type 0} → (X → ℕ → Type 0) → List X → ℕ → Type 0
Sums says [] n = n ≡ 0
Sums says (x ∷ xs) n = (first : ℕ) × (rest : ℕ) × (n ≡ first + rest) × says x first × Sums says xs rest

-- the sum of what each submessage of a message says, where the receiver is as it is when it comes to it
abbrev pub SumsInTurn : GuidPrefix → (Receiver → Submessage → ℕ → Type 0) → Receiver → List Submessage → ℕ → Type 0
SumsInTurn own says at [] n = n ≡ 0
SumsInTurn own says at (s ∷ ss) n =
    (first : ℕ) × (rest : ℕ) × (n ≡ first + rest) × says at s first
    × SumsInTurn own says (after_submessage own at s) ss rest

-- the bytes are a message, and this is the sum of what its submessages say
pub record SumsIn (own : GuidPrefix) (says : Receiver → Submessage → ℕ → Type 0) (bytes : List ℕ) (n : ℕ) : Type 0 where
  pub message : Message
  pub offset : ℕ
  pub is_read : ReadsMessage bytes message offset
  pub sums : SumsInTurn own says (receiver_of message.prefix) message.submessages n

-- the same, or the bytes are no message, and it is 0
abbrev pub Counts : GuidPrefix → (Receiver → Submessage → ℕ → Type 0) → List ℕ → ℕ → Type 0
Counts own says bytes n =
    SumsIn own says bytes n
    ⊎ (((message : Message) (offset : ℕ) → ReadsMessage bytes message offset → ⊥) × (n ≡ 0))

-- 1 where it is so, else 0
abbrev pub one_where : Bool → ℕ
one_where true = 1
one_where false = 0

-- the peer's reader of this number knows the writer: it was opened with it, or has met it
abbrev pub knows_writer : Peer → ℕ → Endpoint → Bool
knows_writer peer reader writer = is_known (own_proxies peer.part reader) writer

-- 1 where the submessage is of a counted writer that the peer's reader of this number knows, for that reader, and old to it;
-- else 0
abbrev pub OldAt : Roster → GuidPrefix → Peer → Option Endpoint → Receiver → EntityId → EntityId → Submessage → ℕ → ℕ
    → Type 0
OldAt roster own peer of at reader_id writer_id submessage reader n =
    WhereMatched roster own at reader_id writer_id peer.part (record { peer = peer.number; number = reader })
    (λ writer entity reliable. n ≡ one_where
    (is_counted of writer && is_old (peer.known.tracked writer reader) submessage))
    (n ≡ 0)

-- to so many of the peer's readers it is old
abbrev pub OldTo : Roster → GuidPrefix → Peer → Option Endpoint → Receiver → EntityId → EntityId → Submessage → ℕ
    → Type 0
OldTo roster own peer of at reader_id writer_id submessage n =
    Sums (OldAt roster own peer of at reader_id writer_id submessage)
    (numbers_from 1 (length peer.part.rtps.readers)) n

-- to so many of them a DATA is old; any other submessage to none
abbrev pub OldData : Roster → GuidPrefix → Peer → Option Endpoint → Receiver → Submessage → ℕ → Type 0
OldData roster own peer of at (Data d) n = OldTo roster own peer of at d.reader_id d.writer_id (Data d) n
OldData roster own peer of at submessage n = n ≡ 0

-- to so many of them a HEARTBEAT is old; any other submessage to none
abbrev pub OldHeartbeats : Roster → GuidPrefix → Peer → Option Endpoint → Receiver → Submessage → ℕ → Type 0
OldHeartbeats roster own peer of at (Heartbeat h) n =
    OldTo roster own peer of at h.reader_id h.writer_id (Heartbeat h) n
OldHeartbeats roster own peer of at submessage n = n ≡ 0

-- it speaks to readers, or to a writer
abbrev pub speaks : Submessage → Bool
speaks (Data d) = true
speaks (Gap g) = true
speaks (Heartbeat h) = true
speaks (AckNack a) = true
speaks submessage = false

-- a submessage of a writer is to a reader of the peer that knows the writer
abbrev pub IsToKnowing : Roster → GuidPrefix → Peer → Receiver → EntityId → EntityId → Type 0
IsToKnowing roster own peer at reader_id writer_id =
    (writer reader : Endpoint) × IsToReader roster own at reader_id writer_id writer reader
    × (reader.peer ≡ peer.number) × (knows_writer peer reader.number writer ≡ true)

-- it is a DATA, a GAP or a HEARTBEAT to a reader of the peer that knows the writer, or an ACKNACK to a writer of it from a
-- reader that this one is matched with
abbrev pub ConcernsPeer : Roster → GuidPrefix → Peer → Receiver → Submessage → Type 0
ConcernsPeer roster own peer at (Data d) = IsToKnowing roster own peer at d.reader_id d.writer_id
ConcernsPeer roster own peer at (Gap g) = IsToKnowing roster own peer at g.reader_id g.writer_id
ConcernsPeer roster own peer at (Heartbeat h) = IsToKnowing roster own peer at h.reader_id h.writer_id
ConcernsPeer roster own peer at (AckNack a) =
    (writer : ℕ) × (reader : Endpoint)
    × IsToWriter roster own at a.reader_id a.writer_id (record { peer = peer.number; number = writer }) reader
    × IsSome (acknowledged_of (own_writer peer.part writer).readers reader)
ConcernsPeer roster own peer at submessage = ⊥

-- 1 where it speaks to readers or to a writer, in a part of the message that is for the peer, and to none of the peer's;
-- else 0
abbrev pub ToNobody : Roster → GuidPrefix → Peer → Receiver → Submessage → ℕ → Type 0
ToNobody roster own peer at submessage n =
    ((n ≡ 1) × (speaks submessage ≡ true) × (is_for at own ≡ true) × (ConcernsPeer roster own peer at submessage → ⊥))
    ⊎ ((n ≡ 0)
    × ((speaks submessage ≡ false) ⊎ ((is_for at own ≡ false) ⊎ ConcernsPeer roster own peer at submessage)))

-- this is what a datagram holds that would be nothing to the peer as it is: of the writer that is asked for, else of all
pub record Observes (roster : Roster) (peer : Peer) (of : Option Endpoint) (bytes : List ℕ)
    (seen : Observed) : Type 0 where
  pub old_data : Counts (roster.prefix peer.number) (OldData roster (roster.prefix peer.number) peer of) bytes
      seen.old_data
  pub old_heartbeats : Counts (roster.prefix peer.number)
      (OldHeartbeats roster (roster.prefix peer.number) peer of) bytes seen.old_heartbeats
  pub to_nobody : Counts (roster.prefix peer.number) (ToNobody roster (roster.prefix peer.number) peer) bytes
      seen.to_nobody
