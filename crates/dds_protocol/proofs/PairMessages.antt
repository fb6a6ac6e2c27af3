-- What the messages of a round do at a pair once the HEARTBEAT was heard: an ACKNACK at the writer, answers at the
-- reader.
use Rattle.std.proofs.Common.{◌≡◌, ℕ, ◌+◌, Bool, true, false, List, [], ◌∷◌, ◌++◌, Option, Some, None, length, flat_map, refl, subst, sym, arith}
use Rattle.std.specs.Prelude.{if◌then◌else◌}
use Rattle.std.specs.List.{All}
use Rattle.std.proofs.lemmas.List.Elements.{All-head, All-tail}
use Rattle.dds_base.specs.declared.change.Change.{Change}
use Rattle.dds_base.specs.declared.guid.EntityId.{EntityId}
use Rattle.dds_base.specs.declared.guid.GuidPrefix.{GuidPrefix}
use Rattle.dds_base.specs.Kept.{change_at, numbers_from}
use Rattle.dds_base.specs.Places.{Match}
use Rattle.rtps_reader.specs.Tracked.{with_data, with_gap}
use Rattle.rtps_sets.specs.NumberSet.{empty_from}
use Rattle.rtps_wire.specs.declared.data.Data.{Data as DataBody}
use Rattle.rtps_wire.specs.declared.gap.Gap.{Gap as GapBody}
use Rattle.rtps_wire.specs.declared.submessage.Submessage.{Submessage}
use Rattle.rtps_wire.specs.declared.submessage.Submessage.TheVariants.{InfoTs, Data, AckNack, Gap}
use Rattle.rtps_wire.specs.Content.{change_in, content_of}
use Rattle.rtps_wire.specs.Messages.{IsWritable, spelling_of}
use Rattle.rtps_writer.specs.declared.answer.Answer.{Answer}
use Rattle.rtps_writer.specs.declared.answer.Answer.TheVariants.{Data as AnswersData, Gap as AnswersGap}
use Rattle.dds_base.specs.declared.endpoint.Endpoint.{Endpoint}
use Rattle.dds_machine.specs.declared.reply.Move.{Move}
use Rattle.dds_machine.specs.declared.reply.Report.{Report}
use Rattle.dds_machine.specs.Part.{own_writer}
use Rattle.dds_protocol.specs.Claims.{Receiver, after_submessage, is_for, stamp_of, IsToReliable}
use Rattle.dds_protocol.specs.DueMessages.{Due, data_of, submessages_of, answer_message}
use Rattle.dds_protocol.specs.Protocol.{State, InTurn, ReaderTakes, is_taken_up, Takes, FollowsMessage, TakesPacket}
use Rattle.dds_protocol.specs.Backed.{reader_at}
use Rattle.dds_protocol.specs.CatchUp.{TakesAnswer, TakesAnswers}
use Rattle.dds_protocol.proofs.Dues.{addressed, message_to}
use Rattle.dds_protocol.proofs.PairAsked.{Asking, Took, HasRow, asked_takes}
use Rattle.dds_protocol.proofs.PairPackets.{FollowsOn, read_addressed, idle_head, ts_idle, TakesFirst, first_head, TakesLast, last_head}
use Rattle.dds_protocol.proofs.PairReader.{standing_of, Seat, seat_kept, MovesBy, moves_between, data_moves, gap_moves}
use Rattle.dds_protocol.proofs.PairTurns.{Host, Keeps, keeps_same, keeps_on, TurnOf, turns_keep, turn_of}

-- ---- answers

-- a number that is answered by a DATA has a change
abbrev pub HasChange : List Change → Answer → Type 0
HasChange changes (AnswersData n) = (change : Change) × (change_at changes n ≡ Some change)
HasChange changes (AnswersGap first last) = Unit {0}

-- answers were taken
pub record Answered (m : Match) (w : Endpoint) (r : ℕ) (answers : List Answer) (old new : State) : Type 0 where
  pub seat : Seat m w r new
  pub keeps : Keeps old new
  pub takes : TakesAnswers m answers (standing_of old w r) (standing_of new w r)

answered_more : (m : Match) (w : Endpoint) (r : ℕ) (a : Answer) (rest : List Answer) (old mid new : State)
    → TakesAnswer m a (standing_of old w r) (standing_of mid w r) → Keeps old mid → Answered m w r rest mid new
    → Answered m w r (a ∷ rest) old new
answered_more m w r a rest old mid new one k h =
    record { seat = h.seat; keeps = keeps_on old mid new k h.keeps; takes = (standing_of mid w r, one, h.takes) }

-- a reader's turn at a submessage for readers
turn_at : (c : Host) (at : Receiver) (s : Submessage) (m : Match) (w : Endpoint) (r : ℕ) (old : State)
    (made : List Move) (dues : List Due) (new : State) → Seat m w r old
    → InTurn (ReaderTakes c.roster c.own c.peer at s) (numbers_from 1 (length old.part.rtps.readers)) old made dues new
    → TurnOf c at s r old dues new
turn_at c at s m w r old made dues new seat h =
    let low = seat.rows.0 in let high = seat.rows.1 in turn_of c at s r 1
    (length old.part.rtps.readers) old made dues new low (omega (arith, high)) h

-- a DATA is taken as the answer to its number
data_answers : (c : Host) (at : Receiver) (d : DataBody) (m : Match) (w : Endpoint) (r : ℕ)
    → IsToReliable c.roster c.own at d.reader_id d.writer_id w (reader_at c.peer r)
    → (old : State) (made : List Move) (dues : List Due) (mid : State) → Seat m w r old
    → Takes c.roster c.own c.peer at (Data d) old made dues mid
    → MovesBy m w r (with_data d.writer_sn (change_in d.content at.timestamp)) old mid × Keeps old mid
data_answers c at d m w r to old made dues mid s h =
    let turn : TurnOf c at (Data d) r old dues mid = turn_at c at (Data d) m w r old made dues mid s h in
    let keeps : Keeps old mid = turns_keep c at (Data d) 1 (length old.part.rtps.readers) old made dues mid h in
    let seat : Seat m w r turn.before = seat_kept m w r old turn.before turn.same_before turn.keeps_before s in (
      moves_between m w r (with_data d.writer_sn (change_in d.content at.timestamp)) old turn.before turn.after mid
          turn.same_before turn.same_after keeps s
          (data_moves c at d m w r to turn.before turn.made turn.due turn.after seat turn.takes),
      keeps,
    )

gap_answers : (c : Host) (at : Receiver) (g : GapBody) (m : Match) (w : Endpoint) (r : ℕ)
    → IsToReliable c.roster c.own at g.reader_id g.writer_id w (reader_at c.peer r)
    → (old : State) (made : List Move) (dues : List Due) (mid : State) → Seat m w r old
    → Takes c.roster c.own c.peer at (Gap g) old made dues mid
    → MovesBy m w r (with_gap g.gap_start g.gap_list) old mid × Keeps old mid
gap_answers c at g m w r to old made dues mid s h =
    let turn : TurnOf c at (Gap g) r old dues mid = turn_at c at (Gap g) m w r old made dues mid s h in
    let keeps : Keeps old mid = turns_keep c at (Gap g) 1 (length old.part.rtps.readers) old made dues mid h in
    let seat : Seat m w r turn.before = seat_kept m w r old turn.before turn.same_before turn.keeps_before s in (
      moves_between m w r (with_gap g.gap_start g.gap_list) old turn.before turn.after mid turn.same_before
          turn.same_after keeps s
          (gap_moves c at g m w r to turn.before turn.made turn.due turn.after seat turn.takes),
      keeps,
    )

-- an INFO_TS changes nothing of whom a submessage is for
to_stamped : (c : Host) (at : Receiver) (reader writer : EntityId) (w x : Endpoint) (stamp : Option ℕ)
    → IsToReliable c.roster c.own at reader writer w x
    → IsToReliable c.roster c.own (after_submessage c.own at (InfoTs stamp)) reader writer w x
to_stamped c at reader writer w x stamp to = by (is_for at c.own)
  where
    by : (b : Bool) → IsToReliable c.roster c.own
        (if b then record at { timestamp = stamp_of stamp } else at) reader writer w x
    by true =
        record {
          is_to = record {
            from = to.is_to.from;
            is_for = to.is_to.is_for;
            entity = to.is_to.entity;
            to = to.is_to.to;
            named = to.is_to.named;
            matched = to.is_to.matched;
          };
          reliable = to.reliable;
        }
    by false = to

abbrev all_of : List Change → EntityId → EntityId → List Answer → List Submessage
all_of changes reader writer answers = flat_map (submessages_of changes reader writer) answers

-- how the rest of the answers is taken, from any state and receiver on
abbrev TakesRest : Host → List Change → EntityId → EntityId → Match → Endpoint → ℕ → List Answer → Type 0
TakesRest c changes reader writer m w r answers =
    (index : ℕ) (at : Receiver) (old : State) (moves : List Move) (dues : List Due) (new : State)
    → IsToReliable c.roster c.own at reader writer w (reader_at c.peer r) → Seat m w r old
    → FollowsMessage c.roster c.own c.peer index at (all_of changes reader writer answers) old moves None dues new
    → Answered m w r answers old new

take_data : (c : Host) (changes : List Change) (reader writer : EntityId) (m : Match) (w : Endpoint) (r n : ℕ)
    (rest : List Answer) (change : Change) (o : Option Change) → o ≡ Some change
    → TakesRest c changes reader writer m w r rest
    → (index : ℕ) (at : Receiver) (old : State) (moves : List Move) (dues : List Due) (new : State)
    → IsToReliable c.roster c.own at reader writer w (reader_at c.peer r) → Seat m w r old
    → FollowsMessage c.roster c.own c.peer index at
    (data_of reader writer n o ++ all_of changes reader writer rest) old moves None dues new
    → Answered m w r (AnswersData n ∷ rest) old new
take_data c changes reader writer m w r n rest change None is later index at old moves dues new to s h = cc
take_data c changes reader writer m w r n rest change (Some x) is later index at old moves dues new to s h =
    let stamp : Option ℕ = Some x.source_timestamp in
    let at' : Receiver = after_submessage c.own at (InfoTs stamp) in
    let body : DataBody = record { reader_id = reader; writer_id = writer; writer_sn = n; content = content_of x } in
    let to' : IsToReliable c.roster c.own at' reader writer w (reader_at c.peer r) =
    to_stamped c at reader writer w (reader_at c.peer r) stamp to in
    let on : FollowsOn c.roster c.own c.peer (index + 1) at'
    (Data body ∷ all_of changes reader writer rest) old dues new =
    idle_head c.roster c.own c.peer index at (InfoTs stamp)
    (Data body ∷ all_of changes reader writer rest) old moves dues new
    (λ made first mid k. ts_idle c.roster c.own c.peer at stamp old made first mid k) h in
    let f : TakesFirst c.roster c.own c.peer (index + 1) at' (Data body) (all_of changes reader writer rest) old dues
    new =
    first_head c.roster c.own c.peer (index + 1) at' (Data body) (all_of changes reader writer rest) old on.moves dues
    new on.follows in
    let one = data_answers c at' body m w r to' old f.made f.first f.mid s f.takes in
    answered_more m w r (AnswersData n) rest old f.mid new (change_in (content_of x) at'.timestamp, one.0.goes) one.1
    (later (index + 1 + 1) at' f.mid f.later f.rest new to' one.0.seat f.follows)

take_gap : (c : Host) (changes : List Change) (reader writer : EntityId) (m : Match) (w : Endpoint) (r first last : ℕ)
    (rest : List Answer) → TakesRest c changes reader writer m w r rest
    → (index : ℕ) (at : Receiver) (old : State) (moves : List Move) (dues : List Due) (new : State)
    → IsToReliable c.roster c.own at reader writer w (reader_at c.peer r) → Seat m w r old
    → FollowsMessage c.roster c.own c.peer index at
    (all_of changes reader writer (AnswersGap first last ∷ rest)) old moves None dues new
    → Answered m w r (AnswersGap first last ∷ rest) old new
take_gap c changes reader writer m w r first last rest later index at old moves dues new to s h =
    let body : GapBody =
    record { reader_id = reader; writer_id = writer; gap_start = first; gap_list = empty_from (last + 1) } in
    let f : TakesFirst c.roster c.own c.peer index at (Gap body) (all_of changes reader writer rest) old dues new =
    first_head c.roster c.own c.peer index at (Gap body) (all_of changes reader writer rest) old moves dues new h in
    let one = gap_answers c at body m w r to old f.made f.first f.mid s f.takes in
    answered_more m w r (AnswersGap first last) rest old f.mid new one.0.goes one.1
    (later (index + 1) at f.mid f.later f.rest new to one.0.seat f.follows)

takes_answers : (c : Host) (changes : List Change) (reader writer : EntityId) (m : Match) (w : Endpoint) (r : ℕ)
    (answers : List Answer) → All (HasChange changes) answers → TakesRest c changes reader writer m w r answers
takes_answers c changes reader writer m w r [] all index at old moves dues new to s h =
    let same = h.1.2 in
    subst (λ (x : State). Answered m w r [] old x) (sym same)
    (record { seat = s; keeps = keeps_same old; takes = refl })
takes_answers c changes reader writer m w r (AnswersData n ∷ rest) all index at old moves dues new to s h =
    let has = All-head (HasChange changes) (AnswersData n) rest all in
    take_data c changes reader writer m w r n rest has.0 (change_at changes n) has.1
    (takes_answers c changes reader writer m w r rest (All-tail (HasChange changes) (AnswersData n) rest all)) index at
    old moves dues new to s h
takes_answers c changes reader writer m w r (AnswersGap first last ∷ rest) all index at old moves dues new to s h =
    take_gap c changes reader writer m w r first last rest
    (takes_answers c changes reader writer m w r rest (All-tail (HasChange changes) (AnswersGap first last) rest all))
    index at old moves dues new to s h

pub answers_packet : (c : Host) → c.own ≡ c.roster.prefix c.peer
    → (from to : GuidPrefix) (reader writer : EntityId) (changes : List Change) (answers : List Answer) (m : Match)
    (w : Endpoint) (r : ℕ)
    → IsToReliable c.roster c.own (addressed from to) reader writer w (reader_at c.peer r)
    → All (HasChange changes) answers
    → (old : State) (report : Report) (dues : List Due) (new : State) → Seat m w r old
    → IsWritable (answer_message from to reader writer changes answers) → report.refused ≡ None
    → TakesPacket c.roster c.peer (spelling_of (answer_message from to reader writer changes answers)) old report
    dues new
    → Answered m w r answers old new
answers_packet c own from to reader writer changes answers m w r is all old report dues new s writable whole takes =
    let on : FollowsOn c.roster c.own c.peer 1 (addressed from to) (all_of changes reader writer answers) old dues new =
    read_addressed c.roster c.own c.peer own from to (all_of changes reader writer answers) old report dues new writable
    whole takes in
    takes_answers c changes reader writer m w r answers all 1 (addressed from to) old on.moves dues new is s on.follows

-- ---- an ACKNACK

pub acknack_packet : (c : Asking) → c.host.own ≡ c.host.roster.prefix c.host.peer → (from to : GuidPrefix)
    → c.at ≡ addressed from to
    → (old : State) (report : Report) (dues : List Due) (new : State) → is_taken_up old c.writer c.reader c.body ≡ true
    → HasRow (own_writer old.part c.writer).readers c.reader
    → IsWritable (message_to from to (AckNack c.body ∷ [])) → report.refused ≡ None
    → TakesPacket c.host.roster c.host.peer
    (spelling_of (message_to from to (AckNack c.body ∷ []))) old report dues new
    → Took c old dues new
acknack_packet c own from to at old report dues new taken row writable whole takes =
    asked_takes c old last.moves dues new taken row
    (subst (λ (x : Receiver). Takes c.host.roster c.host.own c.host.peer x (AckNack c.body) old last.moves dues new)
    (sym at) last.takes)
  where
    h : Host
    h = c.host

    on : FollowsOn h.roster h.own h.peer 1 (addressed from to) (AckNack c.body ∷ []) old dues new
    on =
        read_addressed h.roster h.own h.peer own from to (AckNack c.body ∷ []) old report dues new writable whole takes

    last : TakesLast h.roster h.own h.peer (addressed from to) (AckNack c.body) old dues new
    last = last_head h.roster h.own h.peer 1 (addressed from to) (AckNack c.body) old on.moves dues new on.follows
