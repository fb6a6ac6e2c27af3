-- The ACKNACK of a round at the writer's peer, and the answers at the reader's.
use Rattle.std.proofs.Common.{◌≡◌, ℕ, ◌≤◌, ◌&&◌, max, Bool, true, nat_le, List, [], ◌∷◌, ◌++◌, Option, Some, None, Contains, length, map, refl, subst, ap, sym, ◌∙◌, inl, inr, ⊎_elim, arith}
use Rattle.std.specs.Prelude.{is_some}
use Rattle.std.specs.List.{All, AllByRecursion, list_any}
use Rattle.std.proofs.lemmas.Bool.Decides.{nat_tests}
use Rattle.std.proofs.lemmas.List.Elements.{All-contains, All-from_recursion, All-head, All-tail, All-weaker}
use Rattle.dds_base.specs.declared.change.Change.{Change}
use Rattle.dds_base.specs.declared.guid.EntityId.{EntityId}
use Rattle.std.proofs.lemmas.Bool.{and_parts}
use Rattle.dds_base.specs.Kept.{change_at, is_kept}
use Rattle.dds_base.specs.Places.{Match}
use Rattle.rtps_reader.specs.declared.step.AckNackDue.{AckNackDue}
use Rattle.rtps_sets.specs.NumberSet.{NumberSet, has_number}
use Rattle.rtps_wire.specs.Messages.{IsWritable, spelling_of}
use Rattle.rtps_writer.specs.declared.answer.Answer.{Answer}
use Rattle.rtps_writer.specs.declared.answer.Answer.TheVariants.{Data as AnswersData, Gap as AnswersGap}
use Rattle.rtps_writer.specs.Answers.{IsRight, is_answer_to, answers_to, is_requested, requested}
use Rattle.rtps_writer.proofs.AnswerFacts.{answers-complete, answers-right}
use Rattle.dds_base.specs.declared.endpoint.Endpoint.{Endpoint}
use Rattle.dds_protocol.specs.declared.event.Packet.{Packet}
use Rattle.dds_machine.specs.Part.{Writer, no_writer, own_writer, acknowledged_of, owed_from, writer_changes, history_of}
use Rattle.dds_protocol.specs.Claims.{IsToReader}
use Rattle.dds_machine.specs.Machine.{AllTests}
use Rattle.dds_protocol.specs.Peer.{Peer, state_of}
use Rattle.dds_protocol.specs.DueMessages.{Due, AreSent, answer_message}
use Rattle.dds_protocol.specs.Protocol.{State, AreGrouped, answered_from, has_for}
use Rattle.dds_protocol.specs.World.{WorldState, peer_at}
use Rattle.dds_protocol.specs.Backed.{reader_at}
use Rattle.dds_protocol.specs.CatchUp.{Standing, TakesAnswers}
use Rattle.dds_protocol.specs.Repair.{Delivers, DeliversAll}
use Rattle.dds_protocol.proofs.DuesAcknacks.{ask_body, answer_names}
use Rattle.dds_protocol.proofs.Framing.{number_or_not}
use Rattle.dds_protocol.proofs.PairAsked.{Asking, Took, has_writer}
use Rattle.dds_protocol.proofs.PairHeard.{Pairing, writer_prefix, reader_prefix, writer_id, reader_host, writer_host, there, back, for_itself, to_reader, delivered_takes, delivered_others}
use Rattle.dds_protocol.proofs.PairMessages.{HasChange, Answered, answers_packet}
use Rattle.dds_protocol.proofs.PairReader.{standing_of, Seat}
use Rattle.dds_machine.specs.declared.event.WorldEvent.{WorldEvent}
use Rattle.dds_machine.specs.declared.event.WorldEvent.TheVariants as world
use Rattle.dds_protocol.specs.Noticing.{world_ended}
use Rattle.dds_machine.specs.Numbered.{numbered}
use Rattle.dds_protocol.proofs.PairEnded.{rows_ended, seat_ended, standing_ended}
use Rattle.dds_machine.proofs.Tables.{numbered-same, acknowledged-hits}

-- ---- the ACKNACK

-- it is for the writer, from the reader, and for no other
abbrev pub asking : (p : Pairing) (reader_id : EntityId)
    → IsToReader p.roster (reader_prefix p) (there p) reader_id (writer_id p) p.writer p.reader → AckNackDue → Asking
asking p reader_id is x = record {
  host = writer_host p;
  at = back p;
  body = ask_body is.entity (writer_id p) x;
  writer = p.writer.number;
  reader = p.reader;
  is_to = record {
    entity = is.entity;
    from = is.to;
    named = inl refl;
    is_for = for_itself (writer_prefix p) (reader_prefix p);
    to = p.name;
    matched = p.pair.matched;
  };
  names = λ k y to.
      let n =
      answer_names p.roster p.checked (reader_prefix p) (there p) reader_id (writer_id p) p.writer p.reader is
      (writer_prefix p) (reader_at p.writer.peer k) y to in
      (ap (λ (e : Endpoint). e.number) n.0, n.1);
}

-- the writer then has this of the reader
pub took_acknowledged : (c : Asking) (old new : State) (dues : List Due) (t : Took c old dues new)
    → acknowledged_of (own_writer new.part c.writer).readers c.reader
    ≡ Some (max t.takes.acknowledged c.body.reader_sn_state.base)
took_acknowledged c old new dues t =
    ap (λ (s : State). acknowledged_of (own_writer s.part c.writer).readers c.reader) t.takes.after
    ∙ (ap (λ (w : Writer). acknowledged_of w.readers c.reader)
    (numbered-same old.part.rtps.writers c.writer t.takes.there no_writer
    (has_writer old.part c.writer c.reader (t.takes.acknowledged, t.takes.matched)))
    ∙ (ap (λ (w : Writer). acknowledged_of w.readers c.reader) t.takes.there_is
    ∙ acknowledged-hits (own_writer old.part c.writer).readers c.reader t.takes.acknowledged
    (max t.takes.acknowledged c.body.reader_sn_state.base) t.takes.matched))

-- the peer's readers are as they were
pub took_seat : (c : Asking) (old new : State) (dues : List Due) → Took c old dues new
    → (m : Match) (w : Endpoint) (r : ℕ) → Seat m w r old → Seat m w r new
took_seat c old new dues t m w r s =
    subst (λ (x : State). Seat m w r x) (sym t.takes.after)
    (record {
      rows = s.rows;
      there = s.there;
      handle = s.handle;
      qos = s.qos;
      moment = s.moment;
      place = s.place;
      stands = s.stands;
    })

pub took_standing : (c : Asking) (old new : State) (dues : List Due) → Took c old dues new → (w : Endpoint) (r : ℕ)
    → standing_of new w r ≡ standing_of old w r
took_standing c old new dues t w r = ap (λ (x : State). standing_of x w r) t.takes.after

-- ---- the answers

abbrev pub answers_of : (c : Asking) (old new : State) (dues : List Due) → Took c old dues new → List Answer
answers_of c old new dues t =
    answers_to (has_for t.takes.there c.reader)
    (requested c.body.reader_sn_state
    (answered_from (owed_from t.takes.there c.reader) t.takes.acknowledged c.body.reader_sn_state.base)
    (length (writer_changes t.takes.there)))

-- each is of a change that is there
some_change : (o : Option Change) (b c : Bool) → (is_some o && b && c) ≡ true → (change : Change) × (o ≡ Some change)
some_change (Some x) b c h = (x, refl)
some_change None b c h = cc

right_has : (w : Writer) (r : Endpoint) (a : Answer) → IsRight (has_for w r) (λ n. Unit {0}) a
    → HasChange (writer_changes w) a
right_has w r (AnswersData n) h =
    some_change (change_at (writer_changes w) n) _ _
    (and_parts (is_kept (history_of w) n) (nat_le (owed_from w r) n) h.0).0
right_has w r (AnswersGap first last) h = tt

pub have_changes : (w : Writer) (r : Endpoint) (ns : List ℕ)
    → All (HasChange (writer_changes w)) (answers_to (has_for w r) ns)
have_changes w r ns =
    All-weaker (IsRight (has_for w r) (λ n. Unit {0})) (HasChange (writer_changes w)) (λ a h. right_has w r a h)
    (answers_to (has_for w r) ns)
    (answers-right (has_for w r) (λ n. Unit {0}) ns (λ i d lt. tt))

-- each number that is asked for, and is not acknowledged, is answered
requested_true : (set : NumberSet) (from to n : ℕ) → has_number set n ≡ true → from ≤ n → n ≤ to
    → is_requested set from to n ≡ true
requested_true set from to n has low high =
    ap (λ (b : Bool). b && (nat_le from n && nat_le n to)) has ∙ within
  where
    within : (nat_le from n && nat_le n to) ≡ true
    within = grind (arith, nat_tests)

pub all_answered : (w : Writer) (r : Endpoint) (from : ℕ) (set : NumberSet) → length set.members ≡ 256
    → (n : ℕ) → has_number set n ≡ true → from ≤ n → n ≤ length (writer_changes w)
    → list_any (is_answer_to n) (answers_to (has_for w r) (requested set from (length (writer_changes w)))) ≡ true
all_answered w r from set places n has low high =
    answers-complete (has_for w r) set from (length (writer_changes w)) n (omega (arith, places))
    ∙ requested_true set from (length (writer_changes w)) n has low high

-- ---- what is sent

abbrev pub post : Due → Packet
post d = record { to = d.to; bytes = spelling_of d.message }

pub all_sent : (dues : List Due) (packets : List Packet) (lost : ℕ) → lost ≡ 0 → AreSent dues packets lost
    → packets ≡ map post dues
all_sent [] packets lost none h = h.0
all_sent (d ∷ ds) packets lost none (inl h) =
    h.1 ∙ ap (λ (ps : List Packet). post d ∷ ps) (all_sent ds h.0 lost none h.3)
all_sent (d ∷ ds) packets lost none (inr h) = let more = h.1 in absurd (omega (arith, none, more))

pub each_writable : (dues : List Due) (packets : List Packet) (lost : ℕ) → lost ≡ 0 → AreSent dues packets lost
    → AllByRecursion (λ (d : Due). IsWritable d.message) dues
each_writable [] packets lost none h = tt
each_writable (d ∷ ds) packets lost none (inl h) = (h.2, each_writable ds h.0 lost none h.3)
each_writable (d ∷ ds) packets lost none (inr h) = let more = h.1 in absurd (omega (arith, none, more))

pub due_writable : (dues : List Due) (packets : List Packet) (lost : ℕ) (d : Due) → lost ≡ 0
    → AreSent dues packets lost → Contains dues d → IsWritable d.message
due_writable dues packets lost d none h among =
    All-contains (λ (x : Due). IsWritable x.message) dues d
    (All-from_recursion (λ (x : Due). IsWritable x.message) dues (each_writable dues packets lost none h)) among

-- ---- answers are delivered

-- answers in groups
abbrev pub TakesGroups : Match → List (List Answer) → Standing → Standing → Type 0
TakesGroups m [] old new = new ≡ old
TakesGroups m (g ∷ gs) old new = (mid : Standing) × TakesAnswers m g old mid × TakesGroups m gs mid new

takes_both : (m : Match) (xs ys : List Answer) (old mid new : Standing) → TakesAnswers m xs old mid
    → TakesAnswers m ys mid new → TakesAnswers m (xs ++ ys) old new
takes_both m [] ys old mid new f g = subst (λ (s : Standing). TakesAnswers m ys s new) f g
takes_both m (x ∷ xs) ys old mid new f g = (f.0, f.1, takes_both m xs ys f.0 mid new f.2 g)

pub ungrouped : (m : Match) (per : ℕ) (answers : List Answer) (groups : List (List Answer)) (old new : Standing)
    → AreGrouped per answers groups → TakesGroups m groups old new → TakesAnswers m answers old new
ungrouped m per answers [] old new are h = subst (λ (as' : List Answer). TakesAnswers m as' old new) (sym are) h
ungrouped m per answers (g ∷ gs) old new are h =
    subst (λ (as' : List Answer). TakesAnswers m as' old new) (sym are.1)
    (takes_both m g are.0 old h.0 new h.1 (ungrouped m per are.0 gs h.0 new are.5 h.2))

-- what answers leave, and what they do to the reader
pub record Repaired (p : Pairing) (m : Match) (groups : List (List Answer)) (old new : WorldState) : Type 0 where
  pub seat : Seat m p.writer p.reader.number (state_of (peer_at new p.reader.peer))
  pub takes : TakesGroups m groups (standing_of (state_of (peer_at old p.reader.peer)) p.writer p.reader.number)
      (standing_of (state_of (peer_at new p.reader.peer)) p.writer p.reader.number)
  pub rows : (k : ℕ) → (own_writer (peer_at new p.writer.peer).part k).readers
      ≡ (own_writer (peer_at old p.writer.peer).part k).readers

-- the message with a group of answers
abbrev pub group_due : Pairing → EntityId → List Change → List Answer → Due
group_due p entity changes group =
    record {
      to = p.reader.peer;
      message = answer_message (writer_prefix p) (reader_prefix p) entity
          (writer_id p) changes group;
    }

one_group : (p : Pairing) (tests : AllTests) (m : Match) (entity : EntityId) → entity ≡ p.pair.reader_entity
    → (changes : List Change) (g : List Answer) → IsWritable (group_due p entity changes g).message
    → All (HasChange changes) g
    → (old : WorldState) (lost : ℕ) (mid : WorldState)
    → Delivers p.roster tests old p.reader.peer (post (group_due p entity changes g)) lost mid
    → Seat m p.writer p.reader.number (state_of (peer_at old p.reader.peer))
    → Answered m p.writer p.reader.number g (state_of (peer_at old p.reader.peer))
    (state_of (peer_at mid p.reader.peer))
one_group p tests m entity is changes g writable all old lost mid h seat =
    answers_packet (reader_host p) refl (writer_prefix p) (reader_prefix p) entity
    (writer_id p) changes g m p.writer p.reader.number (to_reader p entity (inl is)) all
    (state_of (peer_at old p.reader.peer)) h.report h.step.dues
    (state_of (peer_at mid p.reader.peer)) seat writable h.whole
    (delivered_takes p.roster tests old p.reader.peer (post (group_due p entity changes g)) lost mid h)

pub answers_delivered : (p : Pairing) (tests : AllTests) (m : Match) (entity : EntityId) → entity ≡ p.pair.reader_entity
    → (changes : List Change) (groups : List (List Answer))
    → AllByRecursion (λ (d : Due). IsWritable d.message) (map (group_due p entity changes) groups)
    → All (All (HasChange changes)) groups
    → (old new : WorldState) → Seat m p.writer p.reader.number (state_of (peer_at old p.reader.peer))
    → DeliversAll p.roster tests old p.reader.peer (map post (map (group_due p entity changes) groups)) new
    → Repaired p m groups old new
answers_delivered p tests m entity is changes [] writable all old new seat h =
    subst (λ (x : WorldState). Repaired p m [] old x) (sym h) (record { seat = seat; takes = refl; rows = λ k. refl })
answers_delivered p tests m entity is changes (g ∷ gs) writable all old new seat h =
    let one =
    one_group p tests m entity is changes g writable.0
    (All-head (All (HasChange changes)) g gs all) old h.1 h.0 h.2 seat in
    let event : WorldEvent = world.Deliver p.reader.peer h.2.number in
    let mid : WorldState = world_ended old event h.0 in
    let rest =
    answers_delivered p tests m entity is changes gs writable.1
    (All-tail (All (HasChange changes)) g gs all) mid new
    (seat_ended old event h.0 p.reader.peer m p.writer p.reader.number one.seat) h.3 in
    record {
      seat = rest.seat;
      takes = (
        standing_of (state_of (peer_at h.0 p.reader.peer)) p.writer p.reader.number,
        one.takes,
        subst (λ (s : Standing). TakesGroups m gs s
            (standing_of (state_of (peer_at new p.reader.peer)) p.writer p.reader.number))
            (standing_ended old event h.0 p.reader.peer p.writer p.reader.number) rest.takes,
      );
      rows = λ k.
          rest.rows k
          ∙ (rows_ended old event h.0 p.writer.peer k
          ∙ ap (λ (ws : List Writer). (numbered ws k no_writer).readers)
          (⊎_elim (λ e. subst (λ (n : ℕ). (peer_at h.0 n).part.rtps.writers ≡ (peer_at old n).part.rtps.writers)
          (sym e) one.keeps.writers)
          (λ apart. ap (λ (x : Peer). x.part.rtps.writers)
          (delivered_others p.roster tests old p.reader.peer
          (post (group_due p entity changes g)) h.1 h.0 h.2 p.writer.peer apart))
          (number_or_not p.writer.peer p.reader.peer)));
    }
