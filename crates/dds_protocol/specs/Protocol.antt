-- The reliable protocol of one peer: what it does with each submessage of a packet, and which messages are then due.
--
-- RTPS 2.5, 8.4.9 (reliable StatefulWriter), 8.4.12 (reliable StatefulReader).
use Rattle.std.specs.Prelude.{◌<◌, ◌≡◌, ◌≢◌, ◌⊎◌, ℕ, ◌+◌, ◌≤◌, ◌==◌, ◌&&◌, ◌||◌, Bool, true, false, not, if◌then◌else◌, nat_lt, nat_le, max, List, [], ◌∷◌, ◌++◌, length, map, Option, Some, None, ℤ}
use Rattle.dds_base.specs.declared.change.Change.{Change}
use Rattle.dds_protocol.specs.Roster.{Roster}
use Rattle.dds_base.specs.declared.guid.EntityId.{EntityId}
use Rattle.dds_base.specs.declared.guid.GuidPrefix.{GuidPrefix}
use Rattle.dds_base.specs.declared.happening.Happening.{Happening}
use Rattle.dds_base.specs.declared.happening.Happening.TheVariants.{Heard as WasHeard}
use Rattle.dds_base.specs.declared.happening.PassedRun.{PassedRun}
use Rattle.dds_base.specs.Bounds.{usual_value}
use Rattle.dds_base.specs.Kept.{numbers_from, is_kept}
use Rattle.dds_base.specs.Matched.{is_reliable}
use Rattle.dds_base.specs.Places.{Match}
use Rattle.dds_base.specs.Counts.{is_later}
use Rattle.rtps_wire.specs.declared.acknack.AckNack.{AckNack as AckNackBody}
use Rattle.rtps_wire.specs.declared.gap.Gap.{Gap as GapBody}
use Rattle.rtps_wire.specs.declared.heartbeat.Heartbeat.{Heartbeat as HeartbeatBody}
use Rattle.rtps_wire.specs.declared.message.Message.{Message}
use Rattle.rtps_wire.specs.declared.submessage.Submessage.{Submessage}
use Rattle.rtps_wire.specs.declared.submessage.Submessage.TheVariants.{Data, Heartbeat, AckNack, Gap}
use Rattle.rtps_wire.specs.Content.{change_in}
use Rattle.rtps_wire.specs.Messages.{ReadsMessage}
use Rattle.rtps_reader.specs.declared.step.AckNackDue.{AckNackDue}
use Rattle.rtps_reader.specs.Tracked.{Tracked, fresh, may_take, with_data, with_gap, with_heartbeat}
use Rattle.rtps_reader.specs.Advance.{Advances}
use Rattle.rtps_reader.specs.Jump.{Jumps, comes}
use Rattle.rtps_reader.specs.Answer.{AnswersHeartbeat, answered}
use Rattle.rtps_sets.specs.NumberSet.{span}
use Rattle.rtps_writer.specs.declared.answer.Answer.{Answer}
use Rattle.rtps_writer.specs.Answers.{answers_to, requested}
use Rattle.dds_base.specs.declared.endpoint.Endpoint.{Endpoint}
use Rattle.dds_machine.specs.declared.reply.Report.{Report}
use Rattle.dds_machine.specs.declared.reply.Move.{Move}
use Rattle.dds_machine.specs.declared.reply.Move.TheVariants.{Place, Acknowledged, Heard, Begun as HasBegun, Strange}
use Rattle.dds_machine.specs.Part.{Attachment, Away, Waiting, Begun, is_attached, how_of, Part, ReaderProxy, Writer, same_endpoint, own_writer, own_proxies, own_reader, acknowledged_of, with_acknowledged, place_of, with_place, with_begun, with_heard, publication_among, at_reader, at_writer, writer_changes, history_of, owed_from}
use Rattle.dds_machine.specs.Matching.{is_known}
use Rattle.dds_machine.specs.Moves.{IsMatchedAt, match_of}
use Rattle.dds_protocol.specs.Claims.{Receiver, receiver_of, after_submessage, IsToReader, IsToWriter}
use Rattle.dds_protocol.specs.Contact.{Contact, no_contact}
use Rattle.dds_protocol.specs.Receipt.{IsNotTaken}
use Rattle.dds_protocol.specs.DueMessages.{Due, answer_message, acknacks_due}

-- What a peer knows beside its part of the machine: what each of its readers has heard of a matched writer's changes,
-- and for each of its writers what it knows of a matched reader by its ACKNACKs.
pub record Known : Type 0 where
  pub tracked : Endpoint → ℕ → Tracked
  pub answered : ℕ → Endpoint → Contact

-- at the opening nothing is known
abbrev pub knows_nothing : Known
knows_nothing = record { tracked = λ w r. fresh; answered = λ w r. no_contact }

-- a peer's part, and what it knows
pub record State : Type 0 where
  pub part : Part
  pub known : Known

-- what a reader has heard of a writer is now this
abbrev pub with_tracked : Known → Endpoint → ℕ → Tracked → Known
with_tracked known writer reader t =
    record known {
      tracked = λ w r. if same_endpoint w writer && (r == reader) then t else known.tracked w r;
    }

-- what a writer knows of a reader by its ACKNACKs is now this
abbrev pub with_answered : Known → ℕ → Endpoint → Contact → Known
with_answered known writer reader contact =
    record known {
      answered = λ w r. if (w == writer) && same_endpoint r reader then contact else known.answered w r;
    }

-- no reader asks for a HEARTBEAT any longer
abbrev pub asked_no_more : Known → Known
asked_no_more known = record known { answered = λ w r. record (known.answered w r) { asks = false } }

-- Steps of a peer in turn, with what each of them moves and what is then due.
abbrev pub InTurn : {X : Type 0} → (X → State → List Move → List Due → State → Type 0) → List X → State → List Move
    → List Due → State → Type 0
InTurn step [] old moves dues new = (moves ≡ []) × (dues ≡ []) × (new ≡ old)
InTurn step (x ∷ xs) old moves dues new =
    (made later : List Move) × (first rest : List Due) × (mid : State) × (moves ≡ made ++ later)
    × (dues ≡ first ++ rest)
    × step x old made first mid × InTurn step xs mid later rest new

-- nothing is done
abbrev pub Idles : State → List Move → List Due → State → Type 0
Idles old moves dues new = (moves ≡ []) × (dues ≡ []) × (new ≡ old)

-- The place of one of the peer's readers goes on in the list of a matched writer, on this way: by the reader's match,
-- from what happened to where the place goes, what is passed over, what is known then, and what happened then.
pub record GoesBy (Way : Match → List Happening → ℕ → List PassedRun → Tracked → List Happening → Type 0) (old : State)
    (writer : Endpoint) (reader : ℕ) (moves : List Move) (new : State) : Type 0 where
  pub publication : ℕ
  pub place : ℕ
  pub matched : IsMatchedAt old.part writer reader publication place
  pub to : ℕ
  pub passed : List PassedRun
  pub known : Tracked
  pub happened : List Happening
  pub advances : Way (match_of old.part reader publication)
      (own_reader old.part reader).happened to passed known happened
  pub moves_are : moves ≡ (if nat_lt place to then Place writer reader to passed ∷ [] else [])
  pub after : new ≡ record {
    part = at_reader old.part reader (with_place (own_proxies old.part reader) writer to) happened;
    known = with_tracked old.known writer reader known;
  }

-- the place of a reader goes as far as it can, by what the reader knows by now
abbrev pub Goes : State → Endpoint → ℕ → Tracked → List Move → State → Type 0
Goes old writer reader t moves new = GoesBy (λ match h. Advances match t h) old writer reader moves new

-- how the peer's reader of this number stands to the writer
abbrev pub stands_to : State → Endpoint → ℕ → Attachment
stands_to s writer reader = how_of (own_proxies s.part reader) writer

-- the place of a reader that waits begins at this number, or where it was, if that is further
pub record StartsAt (old : State) (writer : Endpoint) (reader number : ℕ) (moves : List Move)
    (new : State) : Type 0 where
  pub waits : stands_to old writer reader ≡ Waiting
  pub place : ℕ
  pub at : place_of (own_proxies old.part reader) writer ≡ Some place
  pub moves_are : moves ≡ HasBegun writer reader place (max place number) ∷ []
  pub after : new ≡ record {
    part = at_reader old.part reader (with_begun (own_proxies old.part reader) writer (max place number))
        (own_reader old.part reader).happened;
    known = with_tracked old.known writer reader
        (record (old.known.tracked writer reader) { place = max place number });
  }

-- so it is where the place waits; one that has begun stays where it is
abbrev pub Starts : Attachment → State → Endpoint → ℕ → ℕ → List Move → State → Type 0
Starts Waiting old writer reader number moves new = StartsAt old writer reader number moves new
Starts how old writer reader number moves new = (moves ≡ []) × (new ≡ old)

-- What a change does at a reader whose place has begun: a reliable one holds it, and its place goes as far as it can; a
-- best-effort one takes it at once, over all before it, or not at all (DDS 1.4, 2.2.3, RELIABILITY).
abbrev pub TakesChange : Bool → State → Endpoint → ℕ → ℕ → Change → List Move → State → Type 0
TakesChange true old writer reader number change moves new =
    Goes old writer reader (with_data number change (old.known.tracked writer reader)) moves new
TakesChange false old writer reader number change moves new =
    (is_reliable (own_reader old.part reader).qos.reliability ≡ false)
    × GoesBy (λ match h. Jumps match (old.known.tracked writer reader) h number change) old writer reader moves new

-- the place of a best-effort reader that waits begins at a change, which then comes
pub record BeginsWith (old : State) (writer : Endpoint) (reader number : ℕ) (change : Change) (moves : List Move)
    (new : State) : Type 0 where
  pub starting : List Move
  pub started : State
  pub starts : StartsAt old writer reader number starting started
  pub going : List Move
  pub takes : TakesChange false started writer reader number change going new
  pub moves_are : moves ≡ starting ++ going

-- it does so at the first one that is not below the place, and has room
abbrev pub BeginsIf : Bool → State → Endpoint → ℕ → ℕ → Change → List Move → State → Type 0
BeginsIf true old writer reader number change moves new = BeginsWith old writer reader number change moves new
BeginsIf false old writer reader number change moves new = (moves ≡ []) × (new ≡ old)

-- what a change does at a reader that stands so to its writer: a reliable one whose place waits, waits for a HEARTBEAT
abbrev pub MeetsChange : Attachment → Bool → State → Endpoint → ℕ → ℕ → Change → List Move → State → Type 0
MeetsChange Begun reliable old writer reader number change moves new =
    TakesChange reliable old writer reader number change moves new
MeetsChange Waiting false old writer reader number change moves new =
    (publication : ℕ) × (publication_among (own_proxies old.part reader) writer ≡ Some publication)
    × BeginsIf (nat_le (old.known.tracked writer reader).place number
    && comes (match_of old.part reader publication) number (own_reader old.part reader).happened number change)
    old writer reader number change moves new
MeetsChange how reliable old writer reader number change moves new = (moves ≡ []) × (new ≡ old)

-- what a GAP does at a reader whose place has begun: at a best-effort one nothing
abbrev pub TakesGap : Bool → State → Endpoint → ℕ → GapBody → List Move → State → Type 0
TakesGap true old writer reader g moves new =
    Goes old writer reader (with_gap g.gap_start g.gap_list (old.known.tracked writer reader)) moves new
TakesGap false old writer reader g moves new = (moves ≡ []) × (new ≡ old)

-- at any other one nothing
abbrev pub MeetsGap : Attachment → Bool → State → Endpoint → ℕ → GapBody → List Move → State → Type 0
MeetsGap Begun reliable old writer reader g moves new = TakesGap reliable old writer reader g moves new
MeetsGap how reliable old writer reader g moves new = (moves ≡ []) × (new ≡ old)

-- what a reader hears of a HEARTBEAT: a best-effort one its count and its flag L alone, as if it spoke of no number, and
-- asked for no answer
abbrev pub heard_as : Bool → HeartbeatBody → HeartbeatBody
heard_as true h = h
heard_as false h = record h { first_sn = 0; last_sn = 0; final_flag = true }

-- a reader hears that a matched writer has asserted its liveliness
pub record HearsOf (old : State) (writer : Endpoint) (reader : ℕ) (count : ℤ) (new : State) : Type 0 where
  pub publication : ℕ
  pub handle : publication_among (own_proxies old.part reader) writer ≡ Some publication
  pub here : is_attached (how_of (own_proxies old.part reader) writer) ≡ true
  pub after : new ≡ record old {
    part = at_reader old.part reader (with_heard (own_proxies old.part reader) writer count)
        (WasHeard publication old.part.dds.moment ∷ (own_reader old.part reader).happened);
  }

-- a HEARTBEAT is an assertion of the writer where its flag L is set (RTPS 2.5, 8.3.8, 8.7.2.2)
abbrev pub Asserting : Bool → State → Endpoint → ℕ → ℤ → List Move → State → Type 0
Asserting true old writer reader count moves new =
    HearsOf old writer reader count new × (moves ≡ Heard writer reader ∷ [])
Asserting false old writer reader count moves new = (moves ≡ []) × (new ≡ old)

-- a HEARTBEAT whose count is greater than that of the last one that the reader took of the writer is taken: the reader
-- hears the writer, its place begins at firstSN, if it waits, and goes on, and it answers
pub record TakesHeartbeat (own : GuidPrefix) (at : Receiver) (old : State) (writer : Endpoint) (reader : ℕ)
    (entity : EntityId) (h : HeartbeatBody) (moves : List Move) (dues : List Due) (new : State) : Type 0 where
  pub later : is_later (old.known.tracked writer reader).count h.count ≡ true
  pub hearing : List Move
  pub heard : State
  pub asserts : Asserting h.liveliness_flag old writer reader h.count hearing heard
  pub starting : List Move
  pub started : State
  pub starts : Starts (stands_to old writer reader) heard writer reader h.first_sn starting started
  pub going : List Move
  pub there : State
  pub goes : Goes started writer reader
      (with_heartbeat h.first_sn h.count (started.known.tracked writer reader)) going there
  pub moves_are : moves ≡ hearing ++ (starting ++ going)
  pub answer : Option AckNackDue
  pub answers : AnswersHeartbeat (there.known.tracked writer reader) h.last_sn h.final_flag answer
  pub dues_are : dues ≡ acknacks_due own at.source_guid_prefix writer.peer entity h.writer_id answer
  pub after : new ≡ record there
      { known = with_tracked there.known writer reader (answered answer (there.known.tracked writer reader)) }

-- one that is not taken does nothing
abbrev pub TakesOrNot : GuidPrefix → Receiver → State → Endpoint → ℕ → EntityId → HeartbeatBody → List Move → List Due
    → State → Type 0
TakesOrNot own at old writer reader entity h moves dues new =
    TakesHeartbeat own at old writer reader entity h moves dues new
    ⊎ ((is_later (old.known.tracked writer reader).count h.count ≡ false) × Idles old moves dues new)

-- a best-effort reader whose place waits hears the writer by one that is taken, and waits for a change
pub record HearsAlone (old : State) (writer : Endpoint) (reader : ℕ) (h : HeartbeatBody) (moves : List Move)
    (new : State) : Type 0 where
  pub later : is_later (old.known.tracked writer reader).count h.count ≡ true
  pub heard : State
  pub asserts : Asserting h.liveliness_flag old writer reader h.count moves heard
  pub after : new ≡ record heard {
    known = with_tracked heard.known writer reader
        (record (heard.known.tracked writer reader) { count = Some h.count });
  }

-- what a HEARTBEAT does at a reader that stands so to its writer: where the two are not matched nothing
abbrev pub MeetsHeartbeat : Attachment → Bool → GuidPrefix → Receiver → State → Endpoint → ℕ → EntityId → HeartbeatBody
    → List Move → List Due → State → Type 0
MeetsHeartbeat Away reliable own at old writer reader entity h moves dues new = Idles old moves dues new
MeetsHeartbeat Waiting false own at old writer reader entity h moves dues new =
    (HearsAlone old writer reader h moves new × (dues ≡ []))
    ⊎ ((is_later (old.known.tracked writer reader).count h.count ≡ false) × Idles old moves dues new)
MeetsHeartbeat how reliable own at old writer reader entity h moves dues new =
    TakesOrNot own at old writer reader entity (heard_as reliable h) moves dues new

-- the submessage names the peer's reader, which is of this reliability, and is of a writer that is matched with it, and
-- which it knows: the reader takes it so; else it is nothing to the reader
abbrev pub WhereMatched : Roster → GuidPrefix → Receiver → EntityId → EntityId → Part → Endpoint
    → (Endpoint → EntityId → Bool → Type 0) → Type 0 → Type 0
WhereMatched roster own at reader_id writer_id part reader Takes Idle =
    ((writer : Endpoint) × (is : IsToReader roster own at reader_id writer_id writer reader)
    × (is_known (own_proxies part reader.number) writer ≡ true) × Takes writer is.entity (roster.is_reliable reader))
    ⊎ (((writer : Endpoint) → IsToReader roster own at reader_id writer_id writer reader
    → is_known (own_proxies part reader.number) writer ≡ false) × Idle)

-- what the peer's reader of this number does with a submessage
abbrev pub ReaderTakes : Roster → GuidPrefix → ℕ → Receiver → Submessage → ℕ → State → List Move → List Due → State
    → Type 0
ReaderTakes roster own peer at (Data d) reader old moves dues new =
    WhereMatched roster own at d.reader_id d.writer_id old.part (record { peer = peer; number = reader })
    (λ writer entity reliable. MeetsChange (stands_to old writer reader) reliable old writer reader d.writer_sn
    (change_in d.content at.timestamp) moves new × (dues ≡ []))
    (Idles old moves dues new)
ReaderTakes roster own peer at (Gap g) reader old moves dues new =
    WhereMatched roster own at g.reader_id g.writer_id old.part (record { peer = peer; number = reader })
    (λ writer entity reliable.
    MeetsGap (stands_to old writer reader) reliable old writer reader g moves new × (dues ≡ []))
    (Idles old moves dues new)
ReaderTakes roster own peer at (Heartbeat h) reader old moves dues new =
    WhereMatched roster own at h.reader_id h.writer_id old.part (record { peer = peer; number = reader })
    (λ writer entity reliable.
    MeetsHeartbeat (stands_to old writer reader) reliable own at old writer reader entity h moves dues new)
    (Idles old moves dues new)
ReaderTakes roster own peer at submessage reader old moves dues new = Idles old moves dues new

-- how many answers stand in a message of a writer whose values have at most so many octets: eight where that is no more
-- than usual, else one
abbrev pub answers_per : ℕ → ℕ
answers_per most = if nat_le most usual_value then 8 else 1

-- the answers in order, so many in each group but the last, which has no more than that
abbrev pub AreGrouped : ℕ → List Answer → List (List Answer) → Type 0
AreGrouped per answers [] = answers ≡ []
AreGrouped per answers (group ∷ groups) =
    (rest : List Answer) × (answers ≡ group ++ rest) × (1 ≤ length group) × (length group ≤ per)
    × (rest ≢ [] → length group ≡ per) × AreGrouped per rest groups

-- a writer's matched readers, of which one has acknowledged all numbers below this one, and does not go back
abbrev pub acknowledging : Writer → Endpoint → ℕ → Writer
acknowledging w reader to = record w { readers = with_acknowledged w.readers reader to }

-- The number from which on an ACKNACK of this base is answered. What is acknowledged is not answered again; but where the
-- reader is not owed all, and the base lies below what it is owed, it is answered from the base on: so one whose place is
-- too low is told so, and goes on.
abbrev pub answered_from : (owed acknowledged base : ℕ) → ℕ
answered_from owed acknowledged base =
    if nat_lt 1 owed && nat_lt base owed then base else max acknowledged base

-- the writer still has the change of this number for the reader: it is kept, and owed to that one
abbrev pub has_for : Writer → Endpoint → ℕ → Bool
has_for w reader number = is_kept (history_of w) number && nat_le (owed_from w reader) number

-- the ACKNACK asks for a HEARTBEAT: it is not final, and asks for no change (RTPS 2.5, 8.3.8: AckNack, FinalFlag)
abbrev pub asks_for_heartbeat : AckNackBody → Bool
asks_for_heartbeat a = not a.final_flag && (span a.reader_sn_state.members == 0)

-- what a writer knows of a reader once it took this ACKNACK of it: one that asks for a HEARTBEAT alone is no answer
abbrev pub contact_after : Contact → AckNackBody → Contact
contact_after contact a = record {
  count = Some a.count;
  asks = contact.asks || asks_for_heartbeat a;
  silent = contact.silent && asks_for_heartbeat a;
}

-- An ACKNACK whose count is greater than that of the last one that the writer took of the reader, and whose base is not
-- past the next number, is taken: the reader has acknowledged all below the base, and gets each change that it asks
-- for, or a GAP where the change is not kept, or not owed to it; one that asks for a HEARTBEAT gets it at the next
-- tick.
pub record TakesAckNack (own : GuidPrefix) (at : Receiver) (old : State) (writer : ℕ) (reader : Endpoint)
    (entity : EntityId) (a : AckNackBody) (moves : List Move) (dues : List Due) (new : State) : Type 0 where
  pub acknowledged : ℕ
  pub matched : acknowledged_of (own_writer old.part writer).readers reader ≡ Some acknowledged
  pub moves_are : moves ≡ (if nat_lt acknowledged a.reader_sn_state.base
      then Acknowledged writer reader a.reader_sn_state.base ∷ [] else [])
  pub there : Writer
  pub there_is : there ≡ acknowledging (own_writer old.part writer) reader (max acknowledged a.reader_sn_state.base)
  pub groups : List (List Answer)
  pub grouped : AreGrouped (answers_per there.max_value)
      (answers_to (has_for there reader)
      (requested a.reader_sn_state (answered_from (owed_from there reader) acknowledged a.reader_sn_state.base)
      (length (writer_changes there)))) groups
  pub dues_are : dues ≡ map
      (λ group. record {
        to = reader.peer;
        message = answer_message own at.source_guid_prefix entity a.writer_id (writer_changes there) group;
      }) groups
  pub after : new ≡ record {
    part = at_writer old.part writer there;
    known = with_answered old.known writer reader (contact_after (old.known.answered writer reader) a);
  }

-- the ACKNACK is one that the writer takes
abbrev pub is_taken_up : State → ℕ → Endpoint → AckNackBody → Bool
is_taken_up old writer reader a =
    is_later (old.known.answered writer reader).count a.count
    && nat_le a.reader_sn_state.base (length (writer_changes (own_writer old.part writer)) + 1)

-- The ACKNACK is from this reader of the peer's writer, which is matched with it, and its base is past the next number:
-- it acknowledges changes that the writer has not made.
pub record IsStranger (roster : Roster) (own : GuidPrefix) (peer : ℕ) (at : Receiver) (a : AckNackBody) (writer : ℕ)
    (reader : Endpoint) (old : State) : Type 0 where
  pub is : IsToWriter roster own at a.reader_id a.writer_id (record { peer = peer; number = writer }) reader
  pub acknowledged : ℕ
  pub matched : acknowledged_of (own_writer old.part writer).readers reader ≡ Some acknowledged
  pub beyond : length (writer_changes (own_writer old.part writer)) + 1 < a.reader_sn_state.base

-- what is reported of an ACKNACK that is not taken: who is so strange
abbrev pub SaysStranger : Roster → GuidPrefix → ℕ → Receiver → AckNackBody → ℕ → Endpoint → State → List Move → Type 0
SaysStranger roster own peer at a writer reader old moves =
    (IsStranger roster own peer at a writer reader old × (moves ≡ Strange writer reader ∷ []))
    ⊎ ((IsStranger roster own peer at a writer reader old → ⊥) × (moves ≡ []))

-- an ACKNACK that is not taken changes nothing
abbrev pub PassesAckNack : Roster → GuidPrefix → ℕ → Receiver → AckNackBody → ℕ → Endpoint → State → List Move → List Due
    → State → Type 0
PassesAckNack roster own peer at a writer reader old moves dues new =
    SaysStranger roster own peer at a writer reader old moves × (dues ≡ []) × (new ≡ old)

-- what the peer's writer of this number does with an ACKNACK as to one of its matched readers, which may have sent it
abbrev pub WriterTakes : Roster → GuidPrefix → ℕ → Receiver → AckNackBody → ℕ → Endpoint → State → List Move → List Due
    → State → Type 0
WriterTakes roster own peer at a writer reader old moves dues new =
    ((is : IsToWriter roster own at a.reader_id a.writer_id (record { peer = peer; number = writer }) reader)
    × (is_taken_up old writer reader a ≡ true) × TakesAckNack own at old writer reader is.entity a moves dues new)
    ⊎ ((IsToWriter roster own at a.reader_id a.writer_id (record { peer = peer; number = writer }) reader
    → is_taken_up old writer reader a ≡ false) × PassesAckNack roster own peer at a writer reader old moves dues new)

-- a submessage is taken up: an ACKNACK by each of the peer's writers, as to each of its matched readers; any other one
-- by each of its readers
abbrev pub Takes : Roster → GuidPrefix → ℕ → Receiver → Submessage → State → List Move → List Due → State → Type 0
Takes roster own peer at (AckNack a) old moves dues new =
    InTurn (λ (writer : ℕ). InTurn (λ (p : ReaderProxy). WriterTakes roster own peer at a writer p.reader)
    (own_writer old.part writer).readers)
    (numbers_from 1 (length old.part.rtps.writers)) old moves dues new
Takes roster own peer at submessage old moves dues new =
    InTurn (ReaderTakes roster own peer at submessage)
    (numbers_from 1 (length old.part.rtps.readers)) old moves dues new

-- A submessage of a writer may do something at a reader that knows this of the writer, by the reader's reliability: a
-- DATA there is held, or comes, or the place may go on by what is known already; a GAP is for reliable readers; a
-- HEARTBEAT is taken.
abbrev pub may_do : Bool → Tracked → Submessage → Bool
may_do true t (Data d) = may_take t d.writer_sn
may_do false t (Data d) = nat_le t.place d.writer_sn
may_do reliable t (Gap g) = reliable
may_do reliable t (Heartbeat h) = is_later t.count h.count
may_do reliable t submessage = false

-- it names a reader of the peer, is of a writer that is matched with it, and may do something there
abbrev pub MayDoAt : Roster → GuidPrefix → ℕ → Receiver → EntityId → EntityId → Submessage → State → Type 0
MayDoAt roster own peer at reader_id writer_id submessage old =
    (writer : Endpoint) × (reader : ℕ)
    × IsToReader roster own at reader_id writer_id writer (record { peer = peer; number = reader })
    × (may_do (roster.is_reliable (record { peer = peer; number = reader })) (old.known.tracked writer reader) submessage ≡ true)

-- the submessage may need memory: it may do something at a reader of the peer, or is an ACKNACK that a writer there takes
abbrev pub MayNeedMemory : Roster → GuidPrefix → ℕ → Receiver → Submessage → State → Type 0
MayNeedMemory roster own peer at (AckNack a) old =
    (writer : ℕ) × (reader : Endpoint)
    × IsToWriter roster own at a.reader_id a.writer_id (record { peer = peer; number = writer }) reader
    × ((is_taken_up old writer reader a ≡ true) ⊎ IsStranger roster own peer at a writer reader old)
MayNeedMemory roster own peer at (Data d) old = MayDoAt roster own peer at d.reader_id d.writer_id (Data d) old
MayNeedMemory roster own peer at (Gap g) old = MayDoAt roster own peer at g.reader_id g.writer_id (Gap g) old
MayNeedMemory roster own peer at (Heartbeat h) old =
    MayDoAt roster own peer at h.reader_id h.writer_id (Heartbeat h) old
MayNeedMemory roster own peer at submessage old = ⊥

-- The submessages from this index on are taken up in turn. Either one that may need memory finds none, and nothing is
-- done from it on, or it is taken up, and those that follow are.
abbrev pub FollowsMessage : Roster → GuidPrefix → ℕ → ℕ → Receiver → List Submessage → State → List Move → Option ℕ
    → List Due → State → Type 0
FollowsMessage roster own peer index at [] old moves refused dues new = (refused ≡ None) × Idles old moves dues new
FollowsMessage roster own peer index at (submessage ∷ rest) old moves refused dues new =
    ((refused ≡ Some index) × Idles old moves dues new × MayNeedMemory roster own peer at submessage old)
    ⊎ ((made later : List Move) × (first last : List Due) × (mid : State) × (moves ≡ made ++ later)
    × (dues ≡ first ++ last)
    × Takes roster own peer at submessage old made first mid
    × FollowsMessage roster own peer (index + 1) (after_submessage own at submessage) rest mid later refused last new)

-- the bytes are a message, whose submessages are taken up
pub record TakesMessage (roster : Roster) (peer : ℕ) (bytes : List ℕ) (old : State) (report : Report) (dues : List Due)
    (new : State) : Type 0 where
  pub message : Message
  pub offset : ℕ
  pub is_read : ReadsMessage bytes message offset
  pub follows : FollowsMessage roster (roster.prefix peer) peer 0
      (receiver_of message.prefix) message.submessages old report.moves report.refused dues new

-- what the peer of this number does with a packet: nothing where the bytes are no message
abbrev pub TakesPacket : Roster → ℕ → List ℕ → State → Report → List Due → State → Type 0
TakesPacket roster peer bytes old report dues new =
    TakesMessage roster peer bytes old report dues new
    ⊎ (IsNotTaken bytes old.part report new.part × (new.known ≡ old.known) × (dues ≡ []))
