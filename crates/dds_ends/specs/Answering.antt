-- What a writer does at an ACKNACK, by what it keeps. Inner functions alone cite this: nothing here has to be
-- believed.
--
-- RTPS 2.5, 8.4.7 (ReaderProxy: requested_changes), 8.4.9 (reliable StatefulWriter), 8.3.8 (AckNack, Data, Gap).
use Rattle.std.specs.Prelude.{◌≡◌, ℕ, ℤ, ◌+◌, ◌<◌, ◌≤◌, ◌&&◌, Bool, true, false, not, if◌then◌else◌, List, [], ◌∷◌, length, map, slice_get, slice_set, vec_capacity, Option, Some, None, ◌||◌, nat_lt}
use Rattle.std.specs.List.{All, AllByRecursion}
use Rattle.dds_base.specs.declared.change.Change.{Change}
use Rattle.dds_base.specs.declared.guid.EntityId.{EntityId}
use Rattle.dds_base.specs.declared.guid.GuidPrefix.{GuidPrefix}
use Rattle.dds_base.specs.Bounds.{greatest_value, max_sn}
use Rattle.dds_base.specs.Kept.{kept_change}
use Rattle.dds_base.specs.Written.{changes_of}
use Rattle.rtps_sets.specs.NumberSet.{NumberSet, span}
use Rattle.rtps_wire.specs.declared.acknack.AckNack.{AckNack as AckNackBody}
use Rattle.rtps_wire.specs.declared.submessage.Submessage.{Submessage}
use Rattle.rtps_wire.specs.Submessages.{IsSpellable, all_value_octets}
use Rattle.rtps_writer.specs.declared.answer.Answer.{Answer}
use Rattle.rtps_writer.specs.declared.answer.Answer.TheVariants.{Data, Gap}
use Rattle.rtps_writer.specs.Acknack.{acknack_answers, after_acknack, is_applied, newly_acknowledged}
use Rattle.rtps_writer.specs.Standing.{Kept, StandsFor as RtpsStandsFor}
use Rattle.rtps_writer.specs.WriterState.{WriterState, history_of, last_of}
use Rattle.dds_base.specs.declared.endpoint.Endpoint.{Endpoint}
use Rattle.dds_machine.specs.declared.reply.Move.{Move}
use Rattle.dds_machine.specs.declared.reply.Move.TheVariants.{Acknowledged, Strange}
use Rattle.dds_protocol.specs.Claims.{Receiver, is_for, Names}
use Rattle.rtps_wire.specs.declared.message.Message.{Message}
use Rattle.dds_protocol.specs.DueMessages.{Due, answer_message}
use Rattle.dds_protocol.specs.Protocol.{AreGrouped, answers_per, asks_for_heartbeat}
use Rattle.dds_ends.specs.declared.answering.Answering.{Answering}
use Rattle.dds_ends.specs.declared.answering.Room.{Room}
use Rattle.dds_ends.specs.declared.matching.ReaderName.{ReaderName}
use Rattle.dds_ends.specs.declared.sending.Announced.{Announced}
use Rattle.dds_ends.specs.Beating.{AddsTo, due_to}
use Rattle.dds_ends.specs.Kept.{WriterKept}
use Rattle.dds_ends.specs.Standing.{IsShort}

-- ---- whom an ACKNACK is from

-- it is for the writer of this entity of the peer, and from the reader of this name
pub record IsFrom (own : GuidPrefix) (entity : EntityId) (at : Receiver) (a : AckNackBody)
    (name : ReaderName) : Type 0 where
  pub named : Names a.reader_id name.guid.entity
  pub is_for : is_for at own ≡ true
  pub writer : a.writer_id ≡ entity
  pub source : name.guid.prefix ≡ at.source_guid_prefix

-- an ACKNACK of this base acknowledges changes that the writer has not made
abbrev pub is_beyond : WriterState → ℕ → Bool
is_beyond s base = nat_lt (last_of s + 1) base

-- an ACKNACK of the writer's reader of this row is heeded: it is applied, or acknowledges what was never made
abbrev pub is_heeded : WriterState → ℕ → ℕ → ℤ → Bool
is_heeded s row base count = is_applied s row base count || is_beyond s base

-- the ACKNACK is from the writer's reader of this row, and is heeded
pub record IsAskedAt (own : GuidPrefix) (at : Receiver) (a : AckNackBody) (k : WriterKept) (row : ℕ) : Type 0 where
  pub name : ReaderName
  pub there : slice_get k.readers row ≡ Some name
  pub from : IsFrom own k.entity at a name
  pub heeded : (s : WriterState) → RtpsStandsFor k.writer s
      → is_heeded s row a.reader_sn_state.base a.count ≡ true

-- it is not from that reader, or is not heeded
abbrev pub IsUnaskedAt : GuidPrefix → Receiver → AckNackBody → WriterKept → ℕ → Type 0
IsUnaskedAt own at a k row =
    (name : ReaderName) → slice_get k.readers row ≡ Some name → IsFrom own k.entity at a name
    → (s : WriterState) → RtpsStandsFor k.writer s → is_heeded s row a.reader_sn_state.base a.count ≡ false

-- it is from no reader of the writer, or is not heeded
abbrev pub IsUnasked : GuidPrefix → Receiver → AckNackBody → WriterKept → Type 0
IsUnasked own at a k = (row : ℕ) → IsUnaskedAt own at a k row

-- ---- the room for its answers

-- an answer to each place of the set finds room
pub record HasRoom (numbers : NumberSet) (room : Room) : Type 0 where
  pub none : room.answers.items ≡ []
  pub enough : span numbers.members ≤ vec_capacity room.answers

-- a reader that the ACKNACK is from has room, and no other one
abbrev pub IsRoom : GuidPrefix → EntityId → Receiver → AckNackBody → ReaderName → Option Room → Type 0
IsRoom own entity at a name None = IsFrom own entity at a name → ⊥
IsRoom own entity at a name (Some room) = IsFrom own entity at a name × HasRoom a.reader_sn_state room

-- so it is of each of these readers
pub record AreRooms (own : GuidPrefix) (entity : EntityId) (at : Receiver) (a : AckNackBody) (names : List ReaderName)
    (rooms : List (Option Room)) : Type 0 where
  pub count : length rooms ≡ length names
  pub each : (i : ℕ) (name : ReaderName) (room : Option Room) → slice_get names i ≡ Some name
      → slice_get rooms i ≡ Some room → IsRoom own entity at a name room

-- ---- the messages with the answers

-- the answer can be written: its change is kept, and short; or its numbers are some that the wire has
abbrev pub IsAnswerableIn : ℕ → WriterState → Answer → Type 0
IsAnswerableIn most s (Data number) =
    (change : Change) × (kept_change (history_of s) number ≡ Some change) × IsShort most change.value
IsAnswerableIn most s (Gap first last) = (1 ≤ first) × (first ≤ last) × (last < max_sn)

-- the writer that keeps this can give the answer
pub record CanAnswer (most : ℕ) (kept : Kept) (answer : Answer) : Type 0 where
  pub state : WriterState
  pub stands : RtpsStandsFor kept state
  pub few : length (changes_of state.written) < max_sn
  pub is : IsAnswerableIn most state answer

-- two submessages at most were added, which can be written, with a value that is so short
pub record SpellsMore (most : ℕ) (old new : List Submessage) : Type 0 where
  pub each : AllByRecursion IsSpellable old → AllByRecursion IsSpellable new
  pub few : length new ≤ length old + 2
  pub light : all_value_octets new ≤ all_value_octets old + most
  pub short : all_value_octets new ≤ all_value_octets old + greatest_value

-- it can give each of these answers
pub record AreAnswerable (most : ℕ) (kept : Kept) (answers : List Answer) : Type 0 where
  pub state : WriterState
  pub stands : RtpsStandsFor kept state
  pub few : length (changes_of state.written) < max_sn
  pub each : All (IsAnswerableIn most state) answers

-- the message with these answers, by whom they are given
abbrev pub message_of : Answering → List Change → List Answer → Message
message_of a changes answers =
    answer_message a.own a.reader.guid.prefix a.reader.guid.entity a.entity changes answers

-- a message with answers that is due
abbrev pub answer_due : Answering → List Change → List Answer → Due
answer_due a changes answers = due_to a.reader.reader.peer (message_of a changes answers)

-- the answers are sent, as many in a packet as stand there for values of that length, but in the last one
pub record SendsAnswers (answering : Answering) (changes : List Change) (answers : List Answer)
    (sent gone : Announced) : Type 0 where
  pub groups : List (List Answer)
  pub grouped : AreGrouped (answers_per answering.max_value) answers groups
  pub adds : AddsTo (map (answer_due answering changes) groups) sent gone

-- ---- what a writer does

-- the writer once an ACKNACK of its reader of this row, where that is applied, asks it for a HEARTBEAT, or answers it
abbrev pub heard_if : (applied asks : Bool) → WriterState → ℕ → WriterState
heard_if applied asks s row = record s {
  asks = if applied && asks then slice_set s.asks row true else s.asks;
  silents = if applied && not asks then slice_set s.silents row false else s.silents;
}

-- the writer after an ACKNACK of its reader of this row
abbrev pub after_hearing : WriterState → ℕ → AckNackBody → WriterState
after_hearing s row a =
    heard_if (is_applied s row a.reader_sn_state.base a.count) (asks_for_heartbeat a)
    (after_acknack s row a.reader_sn_state.base a.count) row

-- a writer in this state took the ACKNACK of its reader of this row
pub record TookAckNack (old : WriterKept) (own : GuidPrefix) (row : ℕ) (a : AckNackBody) (sent : Announced)
    (new : WriterKept) (acknowledged : Option ℕ) (gone : Announced) (s : WriterState) : Type 0 where
  pub stands : RtpsStandsFor new.writer (after_hearing s row a)
  pub acknowledged_is : acknowledged ≡ newly_acknowledged s (after_acknack s row a.reader_sn_state.base a.count) row
  pub sends : (name : ReaderName) → slice_get old.readers row ≡ Some name
      → SendsAnswers (record { own = own; entity = old.entity; reader = name; max_value = old.max_value })
      (changes_of s.written)
      (acknack_answers s row a.reader_sn_state.base a.reader_sn_state a.count) sent gone

-- for each state that a writer's old values stand for, it took the ACKNACK of its reader of this row
abbrev pub TakesAckNack : WriterKept → GuidPrefix → ℕ → AckNackBody → Announced → WriterKept → Option ℕ → Announced
    → Type 0
TakesAckNack old own row a sent new acknowledged gone =
    (s : WriterState) → RtpsStandsFor old.writer s → TookAckNack old own row a sent new acknowledged gone s

-- ---- what a peer does

-- the move of an acknowledgement, where there is one
abbrev pub acknowledged_moves : ℕ → Endpoint → Option ℕ → List Move
acknowledged_moves writer reader None = []
acknowledged_moves writer reader (Some to) = Acknowledged writer reader to ∷ []

-- the move of an ACKNACK that acknowledged so, or what was never made
abbrev pub acknack_moves : ℕ → Endpoint → Option ℕ → Bool → List Move
acknack_moves writer reader acknowledged false = acknowledged_moves writer reader acknowledged
acknack_moves writer reader acknowledged true = Strange writer reader ∷ []

-- the move, where there is one
abbrev pub listed : Option Move → List Move
listed None = []
listed (Some m) = m ∷ []
