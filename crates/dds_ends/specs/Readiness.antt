-- Whether a submessage names a reader, what it tells it, that it is made ready, with memory for all that it does,
-- before the reader is told, and what the reader does with it. Inner functions alone cite this: nothing here has to
-- be believed.
--
-- RTPS 2.5, 8.3.4 (the message receiver), 8.4.12 (the behaviour of a reliable StatefulReader).
use Rattle.std.specs.Prelude.{◌≡◌, ◌⊎◌, ◌<◌, ◌≤◌, Bool, true, false, ℕ, List, length, slice_get, Option, Some, None}
use Rattle.dds_base.specs.declared.change.Change.{Change}
use Rattle.dds_base.specs.declared.guid.EntityId.{EntityId}
use Rattle.dds_base.specs.declared.guid.Guid.{Guid}
use Rattle.dds_base.specs.declared.guid.GuidPrefix.{GuidPrefix}
use Rattle.dds_base.specs.declared.happening.Happening.{Happening}
use Rattle.dds_base.specs.Bounds.{max_sn}
use Rattle.dds_base.specs.Places.{Match}
use Rattle.dds_base.specs.Counts.{is_later}
use Rattle.dds_cache.specs.Standing.{qos_of, room_of}
use Rattle.rtps_reader.specs.declared.attachment.Attachment.{Attachment}
use Rattle.rtps_reader.specs.declared.step.HeartbeatSeen.{HeartbeatSeen}
use Rattle.rtps_reader.specs.declared.step.Step.{Step}
use Rattle.rtps_reader.specs.Tracked.{Tracked, with_data, with_gap}
use Rattle.rtps_reader.specs.Attached.{no_news, MeetsNews, MeetsChange, MeetsHeartbeat, MeetsBeat, Rests}
use Rattle.rtps_reader.specs.Reader.{Tracks, IsReadyAt, AllStay, AllStand, OthersStay, OthersStand, match_at, how_at, how_after}
use Rattle.rtps_wire.specs.declared.heartbeat.Heartbeat.{Heartbeat as HeartbeatBody}
use Rattle.rtps_wire.specs.declared.submessage.Submessage.{Submessage}
use Rattle.rtps_wire.specs.declared.submessage.Submessage.TheVariants.{Data, Heartbeat, Gap}
use Rattle.rtps_wire.specs.Content.{change_in}
use Rattle.dds_protocol.specs.Claims.{Receiver, is_for, Names}
use Rattle.dds_protocol.specs.Protocol.{heard_as, may_do}
use Rattle.dds_ends.specs.Identity.{reliable_in}
use Rattle.dds_ends.specs.declared.matching.WriterName.{WriterName}
use Rattle.dds_ends.specs.declared.reader_told.Ready.{Ready}
use Rattle.dds_ends.specs.declared.reader_told.Told.{Told}
use Rattle.dds_ends.specs.declared.reader_told.Told.TheVariants as told
use Rattle.dds_ends.specs.declared.receiver.MessageReceiver.{MessageReceiver}
use Rattle.dds_ends.specs.Kept.{ReaderKept}
use Rattle.dds_ends.specs.Storing.{Holds}

-- the receiver of a message, as a peer keeps it
abbrev pub receiver_at : MessageReceiver → Receiver
receiver_at r = record { source_guid_prefix = r.source; dest_guid_prefix = r.destination; timestamp = r.timestamp }

-- ---- whom a submessage names

-- the first writer of this name
pub record IsFirstName (names : List WriterName) (guid : Guid) (k : ℕ) : Type 0 where
  pub name : WriterName
  pub at : slice_get names k ≡ Some name
  pub named : name.guid ≡ guid
  pub first : (j : ℕ) (n : WriterName) → j < k → slice_get names j ≡ Some n → n.guid ≡ guid → ⊥

-- the name of the writer that a submessage is from
abbrev pub writer_guid : Receiver → EntityId → Guid
writer_guid at writer_id = record { prefix = at.source_guid_prefix; entity = writer_id }

-- the submessage is for the reader, and from its writer of this row
pub record IsNamedFor (own : GuidPrefix) (kept : ReaderKept) (at : Receiver) (reader_id writer_id : EntityId)
    (k : ℕ) : Type 0 where
  pub is_for : is_for at own ≡ true
  pub named : Names reader_id kept.entity
  pub first : IsFirstName kept.writers (writer_guid at writer_id) k

-- these are the readerId and the writerId of a submessage of a writer
abbrev pub NamedBy : Submessage → EntityId → EntityId → Type 0
NamedBy (Data d) reader_id writer_id = (reader_id ≡ d.reader_id) × (writer_id ≡ d.writer_id)
NamedBy (Gap g) reader_id writer_id = (reader_id ≡ g.reader_id) × (writer_id ≡ g.writer_id)
NamedBy (Heartbeat h) reader_id writer_id = (reader_id ≡ h.reader_id) × (writer_id ≡ h.writer_id)
NamedBy submessage reader_id writer_id = ⊥

-- it names no reader and no writer, as it is no submessage of a writer
abbrev pub NamesNobody : Submessage → Type 0
NamesNobody submessage = (reader_id writer_id : EntityId) → NamedBy submessage reader_id writer_id → ⊥

-- it names the reader, and its writer of this row
pub record IsNamedAt (own : GuidPrefix) (at : Receiver) (submessage : Submessage) (kept : ReaderKept)
    (row : ℕ) : Type 0 where
  pub reader_id : EntityId
  pub writer_id : EntityId
  pub by : NamedBy submessage reader_id writer_id
  pub named : IsNamedFor own kept at reader_id writer_id row

-- what the submessage may do at the reader, by what that knows of its writer of this row
pub record MayDo (kept : ReaderKept) (row : ℕ) (submessage : Submessage) (answer : Bool) : Type 0 where
  pub known : Tracked
  pub tracks : Tracks kept.reader row known
  pub does : may_do (reliable_in kept.store) known submessage ≡ answer

-- it names the reader, and can do nothing there
pub record IsIdleAt (own : GuidPrefix) (at : Receiver) (submessage : Submessage) (kept : ReaderKept) : Type 0 where
  pub row : ℕ
  pub named : IsNamedAt own at submessage kept row
  pub idle : MayDo kept row submessage false

-- it does not name the reader
abbrev pub IsUnnamed : GuidPrefix → Receiver → Submessage → ReaderKept → Type 0
IsUnnamed own at submessage kept =
    (reader_id writer_id : EntityId) → NamedBy submessage reader_id writer_id → (k : ℕ)
    → IsNamedFor own kept at reader_id writer_id k → ⊥

-- ---- what it tells

-- what a HEARTBEAT says
abbrev pub seen_in : HeartbeatBody → HeartbeatSeen
seen_in h = record {
  first = h.first_sn;
  last = h.last_sn;
  count = h.count;
  is_final = h.final_flag;
  liveliness = h.liveliness_flag;
}

-- this is what a submessage of a writer tells a reader of this reliability; a change has the source timestamp that the
-- receiver has then
abbrev pub IsToldBy : Bool → Receiver → Submessage → Told → Type 0
IsToldBy reliable at (Data d) (told.Change number change) =
    (reliable ≡ true) × (number ≡ d.writer_sn) × (change ≡ change_in d.content at.timestamp)
IsToldBy reliable at (Data d) (told.Jump number change) =
    (reliable ≡ false) × (number ≡ d.writer_sn) × (change ≡ change_in d.content at.timestamp)
IsToldBy reliable at (Gap g) (told.Gap start list) = (reliable ≡ true) × (start ≡ g.gap_start) × (list ≡ g.gap_list)
IsToldBy reliable at (Gap g) told.Nothing = reliable ≡ false
IsToldBy reliable at (Heartbeat h) (told.Heartbeat seen) = (reliable ≡ true) × (seen ≡ seen_in h)
IsToldBy reliable at (Heartbeat h) (told.Beat seen) = (reliable ≡ false) × (seen ≡ seen_in (heard_as false h))
IsToldBy reliable at submessage other = ⊥

-- what a reader is told is such: the number of a change, the base of a set or firstSN is at most 2^62
abbrev pub IsToldBounded : Told → Type 0
IsToldBounded (told.Change number change) = number ≤ max_sn
IsToldBounded (told.Jump number change) = number ≤ max_sn
IsToldBounded told.Nothing = Unit {0}
IsToldBounded told.Again = Unit {0}
IsToldBounded (told.Gap start list) = list.base ≤ max_sn
IsToldBounded (told.Heartbeat seen) = seen.first ≤ max_sn
IsToldBounded (told.Beat seen) = seen.first ≤ max_sn

-- ---- what is ready

-- the next submessage of the writer of this row finds memory
abbrev pub HasMemory : ReaderKept → ℕ → Type 0
HasMemory kept row = IsReadyAt kept.reader row (room_of kept.store.cache)

-- a change of the writer of this row, as what is ready for a reliable reader
abbrev pub change_ready : ℕ → ℕ → Change → Ready
change_ready row number change = record { row = row; told = told.Change number change }

-- what is ready for a reader that a submessage names
pub record IsReadyWith (own : GuidPrefix) (at : Receiver) (submessage : Submessage) (kept : ReaderKept)
    (ready : Ready) : Type 0 where
  pub reader_id : EntityId
  pub writer_id : EntityId
  pub by : NamedBy submessage reader_id writer_id
  pub named : IsNamedFor own kept at reader_id writer_id ready.row
  pub told : IsToldBy (reliable_in kept.store) at submessage ready.told
  pub room : HasMemory kept ready.row

-- what is ready for a reader, as its writer of this row tells it
pub record IsPreparedAt (row : ℕ) (at : Receiver) (submessage : Submessage) (kept : ReaderKept)
    (ready : Ready) : Type 0 where
  pub row_is : ready.row ≡ row
  pub told : IsToldBy (reliable_in kept.store) at submessage ready.told
  pub room : HasMemory kept ready.row

-- the same, or nothing, where there is no such row, or the submessage is none of a writer
abbrev pub IsPrepared : Option ℕ → Receiver → Submessage → ReaderKept → Option Ready → Type 0
IsPrepared None at submessage kept ready = ready ≡ None
IsPrepared (Some row) at submessage kept None = NamesNobody submessage
IsPrepared (Some row) at submessage kept (Some ready) = IsPreparedAt row at submessage kept ready

-- what is ready for a reader, or nothing, where the submessage does not name it, or can do nothing there
abbrev pub IsReadyFor : GuidPrefix → Receiver → Submessage → ReaderKept → Option Ready → Type 0
IsReadyFor own at submessage kept None = IsUnnamed own at submessage kept ⊎ IsIdleAt own at submessage kept
IsReadyFor own at submessage kept (Some ready) = IsReadyWith own at submessage kept ready

-- the row of the writer that the submessage is from, if it is for the reader, and may do something there
abbrev pub IsRowOf : GuidPrefix → Receiver → Submessage → ReaderKept → Option ℕ → Type 0
IsRowOf own at submessage kept None = IsReadyFor own at submessage kept None
IsRowOf own at submessage kept (Some row) = IsNamedAt own at submessage kept row

-- a reader with more memory, and nothing else
pub record IsAlike (old new : ReaderKept) : Type 0 where
  pub entity : new.entity ≡ old.entity
  pub writers : new.writers ≡ old.writers
  pub reader : AllStay old.reader new.reader
  pub how : AllStand old.reader new.reader
  pub qos : qos_of new.store.cache ≡ qos_of old.store.cache
  pub seen : new.seen ≡ old.seen
  pub matches : new.matches ≡ old.matches
  pub here : new.here ≡ old.here
  pub holds : (h : List Happening) → Holds old.store h → Holds new.store h

-- the reader can be told what is ready
pub record CanTake (kept : ReaderKept) (ready : Ready) : Type 0 where
  pub row : ready.row < length kept.writers
  pub bounded : IsToldBounded ready.told
  pub room : HasMemory kept ready.row

-- ---- what a reader does

-- what it knows of the writer, to which it stands so, and what happened, go on by what it is told
abbrev pub TellsSo : Attachment → Match → Told → Tracked → List Happening → Step → (Tracked → Type 0)
    → (List Happening → Type 0) → Type 0
TellsSo how match (told.Change number change) t h step Knows Has =
    MeetsNews how match (with_data number change) t h step Knows Has
TellsSo how match (told.Jump number change) t h step Knows Has = MeetsChange how match t h number change step Knows Has
TellsSo how match told.Nothing t h step Knows Has = Rests t h step Knows Has
TellsSo how match told.Again t h step Knows Has = MeetsNews how match no_news t h step Knows Has
TellsSo how match (told.Gap start list) t h step Knows Has =
    MeetsNews how match (with_gap start list) t h step Knows Has
TellsSo how match (told.Heartbeat seen) t h step Knows Has =
    ((is_later t.count seen.count ≡ true) × MeetsHeartbeat how match t h seen step Knows Has)
    ⊎ ((is_later t.count seen.count ≡ false) × Rests t h step Knows Has)
TellsSo how match (told.Beat seen) t h step Knows Has =
    ((is_later t.count seen.count ≡ true) × MeetsBeat how match t h seen step Knows Has)
    ⊎ ((is_later t.count seen.count ≡ false) × Rests t h step Knows Has)

-- nothing but what is known and what happened has changed
pub record SameReader (old new : ReaderKept) : Type 0 where
  pub entity : new.entity ≡ old.entity
  pub writers : new.writers ≡ old.writers
  pub qos : qos_of new.store.cache ≡ qos_of old.store.cache
  pub seen : new.seen ≡ old.seen
  pub matches : new.matches ≡ old.matches
  pub here : new.here ≡ old.here

-- the reader was told, at this moment
pub record TakesTold (old : ReaderKept) (ready : Ready) (moment : ℕ) (step : Step) (new : ReaderKept) : Type 0 where
  pub told : (t : Tracked) (h : List Happening) → Tracks old.reader ready.row t → Holds old.store h
      → TellsSo (how_at old.reader ready.row) (match_at (qos_of old.store.cache) ready.row moment) ready.told t h step
      (Tracks new.reader ready.row) (Holds new.store)
  pub others : OthersStay ready.row old.reader new.reader
  pub how : how_at new.reader ready.row ≡ how_after (how_at old.reader ready.row) step
  pub others_how : OthersStand ready.row old.reader new.reader

-- the place at the writer of this row
abbrev pub IsPlaceAt : ReaderKept → ℕ → Tracked → ℕ → Type 0
IsPlaceAt kept row t place = Tracks kept.reader row t → place ≡ t.place
