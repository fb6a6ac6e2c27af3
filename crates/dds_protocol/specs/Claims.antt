-- What packets claim. Bytes enter here alone, by their reading.
--
-- RTPS 2.5, 8.3.4 (the receiver of a message), 8.3.8 (what each submessage means).
use Rattle.std.specs.Prelude.{◌≡◌, ◌⊎◌, ℕ, zero, suc, ◌-◌, ◌<◌, ◌≤◌, Bool, true, ◌||◌, Option, Some, None, ℤ, List, [], ◌∷◌, replicate, slice_get, nat_lt, if◌then◌else◌, Contains}
use Rattle.dds_base.specs.declared.change.Change.{Change}
use Rattle.dds_protocol.specs.Roster.{Roster}
use Rattle.dds_base.specs.declared.guid.GuidPrefix.{GuidPrefix}
use Rattle.dds_base.specs.declared.guid.EntityId.{EntityId}
use Rattle.dds_base.specs.Bounds.{end_of_moments}
use Rattle.dds_base.specs.Checked.{unknown_prefix, same_prefix}
use Rattle.rtps_sets.specs.NumberSet.{has_number}
use Rattle.rtps_wire.specs.declared.gap.Gap.{Gap as GapBody}
use Rattle.rtps_wire.specs.declared.message.Message.{Message}
use Rattle.rtps_wire.specs.declared.submessage.Submessage.{Submessage}
use Rattle.rtps_wire.specs.declared.submessage.Submessage.TheVariants.{InfoDst, InfoTs, Data, Heartbeat, AckNack, Gap}
use Rattle.rtps_wire.specs.Content.{change_in}
use Rattle.rtps_wire.specs.Messages.{ReadsMessage}
use Rattle.dds_base.specs.declared.endpoint.Endpoint.{Endpoint}

-- one thing that a packet says of far lists and places
pub data Claim : Type 0 where
  -- the writer's change of this number, which is for the reader, is this
  ChangeIs : (writer reader : Endpoint) (number : ℕ) (change : Change) → Claim
  -- the change of this number is dropped, or not owed to the reader, or the reader is past it
  MayPass : (writer reader : Endpoint) (number : ℕ) → Claim
  -- the reader's place in the writer's list is at least this
  PlaceReached : (writer reader : Endpoint) (base : ℕ) → Claim
  -- this HEARTBEAT count numbers an assertion of the writer, of which the reader may learn
  Asserts : (writer reader : Endpoint) (count : ℤ) → Claim

-- the element of this number, counted from 1
abbrev pub IsNumbered : {X : Type 0} → List X → ℕ → X → Type 0
IsNumbered xs n x = (1 ≤ n) × (slice_get xs (n - 1) ≡ Some x)

-- the roster has the writer, by this GUID
pub record IsWriter (roster : Roster) (prefix : GuidPrefix) (entity : EntityId) (writer : Endpoint) : Type 0 where
  pub same_prefix : roster.prefix writer.peer ≡ prefix
  pub at_writer : roster.writers writer ≡ Some entity

-- the roster has the reader, by this GUID
pub record IsReader (roster : Roster) (prefix : GuidPrefix) (entity : EntityId) (reader : Endpoint) : Type 0 where
  pub same_prefix : roster.prefix reader.peer ≡ prefix
  pub at_reader : roster.readers reader ≡ Some entity

-- what a receiver knows when it comes to a submessage: whom the message is from, whom this part of it is for, and when
-- what follows was made
pub record Receiver : Type 0 where
  pub source_guid_prefix : GuidPrefix
  pub dest_guid_prefix : GuidPrefix
  pub timestamp : ℕ

-- the prefix that names every peer: GUIDPREFIX_UNKNOWN
abbrev pub every_peer : GuidPrefix
every_peer = unknown_prefix

-- the receiver at the begin of a message of this prefix: what follows is for every peer, at moment 0
abbrev pub receiver_of : GuidPrefix → Receiver
receiver_of prefix = record { source_guid_prefix = prefix; dest_guid_prefix = every_peer; timestamp = 0 }

-- this part of the message is for the peer of this prefix
abbrev pub is_for : Receiver → GuidPrefix → Bool
is_for receiver own = same_prefix receiver.dest_guid_prefix own || same_prefix receiver.dest_guid_prefix every_peer

-- the moment that an INFO_TS gives: 0 where it gives none, or one from 2^63 on
abbrev pub stamp_of : Option ℕ → ℕ
stamp_of None = 0
stamp_of (Some moment) = if nat_lt moment end_of_moments then moment else 0

-- what a submessage leaves, at the peer of this prefix, for those that follow: an INFO_TS counts where it is for the
-- peer
abbrev pub after_submessage : GuidPrefix → Receiver → Submessage → Receiver
after_submessage own receiver (InfoDst prefix) = record receiver { dest_guid_prefix = prefix }
after_submessage own receiver (InfoTs stamp) =
    if is_for receiver own then record receiver { timestamp = stamp_of stamp } else receiver
after_submessage own receiver submessage = receiver

-- the submessage of this index, counted from 0, stands among these, and the receiver is so when it comes to it
abbrev pub StandsAt : GuidPrefix → Receiver → List Submessage → ℕ → Receiver → Submessage → Type 0
StandsAt own receiver [] index at submessage = ⊥
StandsAt own receiver (s ∷ ss) zero at submessage = (at ≡ receiver) × (submessage ≡ s)
StandsAt own receiver (s ∷ ss) (suc index) at submessage =
    StandsAt own (after_submessage own receiver s) ss index at submessage

-- the entity id that names all matched readers: ENTITYID_UNKNOWN
abbrev pub every_reader : EntityId
every_reader = record { 0 = replicate 4 0 }

-- the entity id that names a participant itself, and so no reader: ENTITYID_PARTICIPANT (RTPS 2.5, 9.3)
abbrev pub participant_entity : EntityId
participant_entity = record { 0 = 0x00 ∷ 0x00 ∷ 0x01 ∷ 0xc1 ∷ [] }

-- the readerId names the reader of this entity id
abbrev pub Names : EntityId → EntityId → Type 0
Names reader_id entity = (reader_id ≡ entity) ⊎ (reader_id ≡ every_reader)

-- the submessage is from the writer, in a part that is for the peer of the reader, and its readerId names the reader,
-- which is matched with the writer
pub record IsToReader (roster : Roster) (own : GuidPrefix) (at : Receiver) (reader_id writer_id : EntityId)
    (writer reader : Endpoint) : Type 0 where
  pub from : IsWriter roster at.source_guid_prefix writer_id writer
  pub is_for : is_for at own ≡ true
  pub entity : EntityId
  pub to : IsReader roster own entity reader
  pub named : Names reader_id entity
  pub matched : roster.are_matched writer reader ≡ true

-- the same, and the reader is a reliable one: a best-effort reader is told nothing of what was dropped
pub record IsToReliable (roster : Roster) (own : GuidPrefix) (at : Receiver) (reader_id writer_id : EntityId)
    (writer reader : Endpoint) : Type 0 where
  pub is_to : IsToReader roster own at reader_id writer_id writer reader
  pub reliable : roster.is_reliable reader ≡ true

-- the submessage is from the reader, which its readerId names, for the writer, with which it is matched
pub record IsToWriter (roster : Roster) (own : GuidPrefix) (at : Receiver) (reader_id writer_id : EntityId)
    (writer reader : Endpoint) : Type 0 where
  pub entity : EntityId
  pub from : IsReader roster at.source_guid_prefix entity reader
  pub named : Names reader_id entity
  pub is_for : is_for at own ≡ true
  pub to : IsWriter roster own writer_id writer
  pub matched : roster.are_matched writer reader ≡ true

-- the submessage concerns an endpoint of the peer of this number: it is a DATA, a GAP or a HEARTBEAT to a reader there,
-- or an ACKNACK to a writer there
abbrev pub Concerns : Roster → GuidPrefix → ℕ → Receiver → Submessage → Type 0
Concerns roster own peer at (Data d) =
    (writer reader : Endpoint) × IsToReader roster own at d.reader_id d.writer_id writer reader × (reader.peer ≡ peer)
Concerns roster own peer at (Gap g) =
    (writer reader : Endpoint) × IsToReader roster own at g.reader_id g.writer_id writer reader × (reader.peer ≡ peer)
Concerns roster own peer at (Heartbeat h) =
    (writer reader : Endpoint) × IsToReader roster own at h.reader_id h.writer_id writer reader × (reader.peer ≡ peer)
Concerns roster own peer at (AckNack a) =
    (writer reader : Endpoint) × IsToWriter roster own at a.reader_id a.writer_id writer reader × (writer.peer ≡ peer)
Concerns roster own peer at submessage = ⊥

-- the number is one that a GAP names: from gapStart to below the set's base, or in the set
abbrev pub IsInGap : GapBody → ℕ → Type 0
IsInGap g number = ((g.gap_start ≤ number) × (number < g.gap_list.base)) ⊎ (has_number g.gap_list number ≡ true)

-- what a submessage claims to the peer of this prefix, where the receiver is so
abbrev pub Says : Roster → GuidPrefix → Receiver → Submessage → Claim → Type 0
Says roster own at (Data d) (ChangeIs writer reader number change) =
    IsToReader roster own at d.reader_id d.writer_id writer reader × (number ≡ d.writer_sn)
    × (change ≡ change_in d.content at.timestamp)
Says roster own at (Gap g) (MayPass writer reader number) =
    IsToReliable roster own at g.reader_id g.writer_id writer reader × (1 ≤ number) × IsInGap g number
Says roster own at (Heartbeat h) (MayPass writer reader number) =
    IsToReliable roster own at h.reader_id h.writer_id writer reader × (1 ≤ number) × (number < h.first_sn)
Says roster own at (Heartbeat h) (Asserts writer reader count) =
    IsToReader roster own at h.reader_id h.writer_id writer reader × (h.liveliness_flag ≡ true) × (count ≡ h.count)
Says roster own at (AckNack a) (PlaceReached writer reader base) =
    IsToWriter roster own at a.reader_id a.writer_id writer reader × (base ≡ a.reader_sn_state.base)
Says roster own at submessage claim = ⊥

-- the submessage stands in the message that these bytes are, and the receiver is so when it comes to it
pub record StandsIn (bytes : List ℕ) (own : GuidPrefix) (at : Receiver) (submessage : Submessage) : Type 0 where
  pub message : Message
  pub offset : ℕ
  pub is_read : ReadsMessage bytes message offset
  pub index : ℕ
  pub stands : StandsAt own (receiver_of message.prefix) message.submessages index at submessage

-- a packet's claims, by its bytes
pub record Claims (roster : Roster) (bytes : List ℕ) (claim : Claim) : Type 0 where
  pub own : GuidPrefix
  pub at : Receiver
  pub submessage : Submessage
  pub there : StandsIn bytes own at submessage
  pub says : Says roster own at submessage claim

-- one of these packets claims it
pub record Claimed (roster : Roster) (packets : List (List ℕ)) (claim : Claim) : Type 0 where
  pub packet : List ℕ
  pub among : Contains packets packet
  pub claims : Claims roster packet claim
