-- After a round of repair of a writer and a reader the reader has caught up.
use Rattle.std.specs.Prelude.{nat_lt, if◌then◌else◌}
use Rattle.std.proofs.Common.{◌≡◌, ◌⊎◌, ℕ, ℤ, ◌+◌, ◌≤◌, ◌&&◌, max, Bool, true, false, nat_le, List, Option, Some, Contains, length, map, refl, subst, ap, sym, ◌∙◌, inl, inr, ⊎_elim, arith}
use Rattle.std.specs.List.{AllByRecursion}
use Rattle.std.proofs.lemmas.Bool.Decides.{nat_tests}
use Rattle.std.proofs.lemmas.Int.{ints}
use Rattle.std.proofs.lemmas.Option.{same_Some}
use Rattle.dds_base.specs.declared.change.Change.{Change}
use Rattle.dds_protocol.specs.Roster.{IsRoster, Roster}
use Rattle.dds_base.specs.declared.guid.EntityId.{EntityId}
use Rattle.dds_base.specs.declared.qos.ReaderQos.{ReaderQos}
use Rattle.dds_base.specs.Places.{coming}
use Rattle.dds_base.specs.Presence.{has_room}
use Rattle.rtps_reader.specs.declared.step.AckNackDue.{AckNackDue}
use Rattle.rtps_reader.specs.Answer.{AnswersHeartbeat, Tells, answered}
use Rattle.rtps_wire.specs.Messages.{IsWritable}
use Rattle.rtps_writer.specs.declared.answer.Answer.{Answer}
use Rattle.rtps_writer.specs.Answers.{requested}
use Rattle.dds_base.specs.declared.endpoint.Endpoint.{Endpoint}
use Rattle.dds_protocol.specs.declared.event.Packet.{Packet}
use Rattle.dds_machine.specs.declared.event.WorldEvent.TheVariants as world
use Rattle.dds_machine.specs.declared.reply.Reply.TheVariants.{Reported}
use Rattle.dds_machine.specs.Part.{Attachment, IsCovered, Writer, is_attached, own_reader, acknowledged_of, owed_from, writer_changes, ReaderProxy}
use Rattle.dds_machine.specs.Moves.{match_of, position_at}
use Rattle.dds_machine.specs.Machine.{AllTests, writer_at}
use Rattle.dds_protocol.specs.Peer.{Peer, state_of}
use Rattle.dds_protocol.specs.DueMessages.{Due}
use Rattle.dds_protocol.specs.Protocol.{State, answered_from, has_for, is_taken_up, TakesPacket}
use Rattle.dds_protocol.specs.World.{WorldState, peer_at, machine_of, Sound}
use Rattle.dds_protocol.specs.Bounds.{IsBounded}
use Rattle.dds_protocol.specs.CatchUp.{Standing, TakesAnswers, IsRepaired, IsFull, HasGoneOn}
use Rattle.dds_protocol.specs.Fresh.{HasAckNack, HasUsedCounts, tracked_at}
use Rattle.dds_protocol.specs.Repair.{AsksInRound, Delivers, DeliversAll, IsPair, StandsAt, IsRepairRound, HoldsWithoutRoom, HasCaughtUp}
use Rattle.dds_protocol.proofs.CaughtUp.{window_catches_up}
use Rattle.dds_protocol.proofs.DuesAnswers.{all_grouped}
use Rattle.dds_protocol.proofs.Framing.{number_or_not}
use Rattle.dds_protocol.proofs.FreshCounts.{IsWrittenOf, sent_written}
use Rattle.dds_protocol.proofs.PairAnswered.{asking, took_acknowledged, took_seat, took_standing, answers_of, have_changes, all_answered, post, all_sent, each_writable, ungrouped, group_due, Repaired, answers_delivered}
use Rattle.dds_protocol.specs.Repair.{packets_for}
use Rattle.dds_protocol.proofs.PairFew.{few_groups}
use Rattle.dds_protocol.proofs.Owing.{owed_acknowledged, owed_same}
use Rattle.dds_base.specs.Counts.{is_later}
use Rattle.std.proofs.lemmas.List.{length-map}
use Rattle.dds_protocol.proofs.PairAsked.{Asking, Took}
use Rattle.dds_protocol.proofs.PairHeard.{writer_prefix, reader_prefix, HasAsked, not_other, ask_found, delivered_takes, delivered_others}
use Rattle.dds_protocol.proofs.PairMessages.{HasChange, acknack_packet}
use Rattle.dds_protocol.proofs.PairReader.{standing, standing_of, Seat, reader_entities}
use Rattle.dds_protocol.proofs.PairTicked.{new_count}
use Rattle.dds_machine.proofs.Tables.{acknowledged-hits}
use Rattle.dds_machine.specs.declared.event.WorldEvent.{WorldEvent}
use Rattle.dds_protocol.specs.Noticing.{world_ended}
use Rattle.dds_protocol.proofs.PairEnded.{rows_ended, seat_ended, standing_ended}
use Rattle.dds_protocol.proofs.PairBegun.{rows_heard, the_writer, noted_beat, noted_tick, seat_noted, standing_noted, Begun, the_begun, Told, Missed, contacts_of, met, HasRow, writer_is, place_is, pairing, body, ticked_reader, match, started_at, started_on, heard_reader, hears, heard_of, the_last, goes, forward, acknacks, heard_writer, same_answered, writer_heard, row_heard, changes_heard, values_heard, place_heard, packet}

-- a round, but for its answers
record AskedRound : Type 0 where
  first : Begun
  told : Told first
  ask : Packet
  ask_sent : Contains first.begins.hears.step.packets ask
  ask_count : ℤ
  ask_of : HasAckNack first.roster ask.bytes first.writer first.reader ask_count
  after_ask : WorldState
  answers : Delivers first.roster first.tests (noted_beat first) first.writer.peer ask 0 after_ask

-- the packet of the ACKNACK, as it is due
ask_written : (c : Begun) (ask : Packet) → Contains c.begins.hears.step.packets ask
    → IsWrittenOf c.begins.hears.step.dues ask
ask_written c ask sent =
    sent_written c.roster c.tests (noted_tick c) (world.Deliver c.reader.peer c.begins.hears.number)
    (Reported c.begins.hears.report) c.begins.lost_asks c.heard c.begins.hears.step ask sent

-- a reader that sent one was told
asked_told : (c : Begun) (ask : Packet) (count : ℤ) → Contains c.begins.hears.step.packets ask
    → HasAckNack c.roster ask.bytes c.writer c.reader count → Told c
asked_told c ask count sent has =
    let d : IsWrittenOf c.begins.hears.step.dues ask = ask_written c ask sent in
    ⊎_elim (λ t. t)
    (λ (m : Missed c). absurd (not_other (pairing c) c.begins.hears.step.dues ask count has d
    (m.of.spares.others d.due d.among))) (met c)

-- the reader's ACKNACK
asked : (c : AskedRound) → HasAsked (pairing c.first) (body c.told) (match c.first) (ticked_reader c.first)
    (heard_reader c.first) c.first.begins.hears.step.dues (packet c.told) c.ask
asked c =
    ask_found (pairing c.first) (body c.told) refl (match c.first) (ticked_reader c.first)
    (heard_reader c.first) c.first.begins.hears.step.dues (packet c.told) c.ask c.ask_count c.ask_of
    (ask_written c.first c.ask c.ask_sent)

tells : (c : AskedRound) → Tells (heard_of c.told) (body c.told).last_sn (asked c).x
tells c =
    let a : AnswersHeartbeat (heard_of c.told) (body c.told).last_sn false (Some (asked c).x) =
    subst (λ (o : Option AckNackDue). AnswersHeartbeat (heard_of c.told) (body c.told).last_sn false o)
    (asked c).answer (hears c.told).answers in
    a.3

-- where the reader stands once its ACKNACK was made
standing_told : (c : AskedRound) → standing_of (heard_reader c.first) c.first.writer c.first.reader.number
    ≡ standing (answered (Some (asked c).x) (heard_of c.told))
    (own_reader (hears c.told).heard.part c.first.reader.number).happened
standing_told c =
    (hears c.told).after
    ∙ ap (λ (o : Option AckNackDue). standing (answered o (heard_of c.told))
    (own_reader (hears c.told).heard.part c.first.reader.number).happened) (asked c).answer

-- ---- the ACKNACK

abbrev asks : AskedRound → Asking
asks c = asking (pairing c.first) (body c.told).reader_id (hears c.told).is (asked c).x

both_true : (a b : Bool) → a ≡ true → b ≡ true → (a && b) ≡ true
both_true true b e f = f
both_true false b e f = cc

ask_new : (c : AskedRound) → is_taken_up (heard_writer c.first) c.first.writer.number c.first.reader (asks c).body
    ≡ true
ask_new c =
    both_true
    (is_later ((heard_writer c.first).known.answered c.first.writer.number c.first.reader).count (asked c).x.count)
    (nat_le (asked c).x.missing.base (length (writer_changes (writer_heard c.first)) + 1)) later within
  where
    later : is_later ((heard_writer c.first).known.answered c.first.writer.number c.first.reader).count (asked c).x.count
        ≡ true
    later =
        ap (λ (z : ℤ). is_later ((heard_writer c.first).known.answered c.first.writer.number c.first.reader).count z)
        (tells c).count
        ∙ new_count ((heard_writer c.first).known.answered c.first.writer.number c.first.reader).count
        (heard_of c.told).acknacks
        (λ count e.
        let low = c.first.used.acknack_taken c.first.writer c.first.reader count (sym (same_answered c.first) ∙ e) in
        let same = acknacks c.told in omega (arith, ints, low, same))

    within : nat_le (asked c).x.missing.base (length (writer_changes (writer_heard c.first)) + 1) ≡ true
    within =
        let base = (tells c).set_base in
        let le = place_heard c.told in
        let count = ap (λ (cs : List Change). length cs) (changes_heard c.first) in
        let low : (asked c).x.missing.base ≤ length (writer_changes (writer_heard c.first)) + 1 =
        omega (arith, base, le, count) in
        grind (arith, nat_tests)

abbrev asked_writer : AskedRound → State
asked_writer c = state_of (peer_at c.after_ask c.first.writer.peer)

took : (c : AskedRound) → Took (asks c) (heard_writer c.first) c.answers.step.dues (asked_writer c)
took c =
    acknack_packet (asks c) refl (reader_prefix (pairing c.first))
    (writer_prefix (pairing c.first)) refl (heard_writer c.first) c.answers.report c.answers.step.dues
    (asked_writer c)
    (ask_new c) (c.first.acknowledged, row_heard c.first) (asked c).writable c.answers.whole
    (subst (λ (b : List ℕ). TakesPacket c.first.roster c.first.writer.peer b
    (heard_writer c.first) c.answers.report c.answers.step.dues (asked_writer c)) (asked c).bytes
    (delivered_takes c.first.roster c.first.tests
    (noted_beat c.first) c.first.writer.peer c.ask 0 c.after_ask c.answers))

-- what the writer then has of the reader
abbrev known_to_writer : AskedRound → ℕ
known_to_writer c = max (took c).takes.acknowledged (asked c).x.missing.base

-- the writer's changes are those of before
abbrev there_after : AskedRound → Writer
there_after c = (took c).takes.there

changes_there : (c : AskedRound) → length (writer_changes (there_after c)) ≡ the_last c.first
changes_there c =
    ap (λ (w : Writer). length (writer_changes w)) (took c).takes.there_is
    ∙ ap (λ (cs : List Change). length cs) (changes_heard c.first)

row_there : (c : AskedRound) → HasRow (there_after c) c.first.reader (known_to_writer c)
row_there c =
    ap (λ (w : Writer). acknowledged_of w.readers c.first.reader) (took c).takes.there_is
    ∙ acknowledged-hits (writer_heard c.first).readers c.first.reader (took c).takes.acknowledged (known_to_writer c)
    (took c).takes.matched

-- ---- from where on the ACKNACK is answered

-- what the reader is owed then
abbrev owed_there : AskedRound → ℕ
owed_there c = owed_from (there_after c) c.first.reader

abbrev asked_from : AskedRound → ℕ
asked_from c = answered_from (owed_there c) (took c).takes.acknowledged (asked c).x.missing.base

abbrev old_writer : AskedRound → Writer
old_writer c = writer_at (machine_of c.first.old) c.first.writer

-- that is no less than before the round
owed_more : (c : AskedRound) → owed_from (old_writer c) c.first.reader ≤ owed_there c
owed_more c =
    let same = ap (λ (w : Writer). owed_from w c.first.reader) (writer_is c.first.old c.first.writer) in
    let count = ap (λ (cs : List Change). length cs) (changes_heard c.first) in
    let heard =
    owed_same (the_writer c.first) (writer_heard c.first) (rows_heard c.first) (omega (arith, count)) c.first.reader in
    let next = owed_acknowledged (writer_heard c.first) c.first.reader (known_to_writer c) c.first.reader in
    let there = ap (λ (w : Writer). owed_from w c.first.reader) (took c).takes.there_is in
    omega (arith, same, heard, next, there)

-- the writer had no more of the reader than its place, or than it is not owed
had_covered : (c : AskedRound) → ((took c).takes.acknowledged ≤ owed_there c)
    ⊎ ((took c).takes.acknowledged ≤ c.first.place)
had_covered c =
    let same : (took c).takes.acknowledged ≡ c.first.acknowledged =
    same_Some (took c).takes.acknowledged c.first.acknowledged (sym (took c).takes.matched ∙ row_heard c.first) in
    let more = owed_more c in
    let covered : IsCovered (Some c.first.acknowledged) (owed_from (old_writer c) c.first.reader) (Some c.first.place) =
    subst (λ (o : Option ℕ). IsCovered o (owed_from (old_writer c) c.first.reader) (Some c.first.place))
    c.first.stands.acknowledged_is
    (subst (λ (o : Option ℕ). IsCovered (acknowledged_of (old_writer c).readers c.first.reader)
    (owed_from (old_writer c) c.first.reader) o)
    c.first.stands.place_is (c.first.sound.acknowledged c.first.writer c.first.reader)) in
    ⊎_elim (λ q. inl (omega (arith, same, more, q))) (λ p. inr (omega (arith, same, p))) covered

-- it is answered from no number above its base on
from_base : (owed acknowledged base : ℕ) → 1 ≤ base → (acknowledged ≤ owed) ⊎ (acknowledged ≤ base)
    → answered_from owed acknowledged base ≤ base
from_base owed acknowledged base least h = by (nat_lt 1 owed) (nat_lt base owed) refl refl
  where
    most : owed ≤ base → max acknowledged base ≤ base
    most above = ⊎_elim (λ q. omega (arith, above, q)) (λ q. omega (arith, q)) h

    by : (b c : Bool) → nat_lt 1 owed ≡ b → nat_lt base owed ≡ c
        → (if b && c then base else max acknowledged base) ≤ base
    by true true d e = omega arith
    by true false d e = most (grind (arith, nat_tests))
    by false c d e = let one : owed ≤ 1 = grind (arith, nat_tests) in most (omega (arith, one, least))

-- ---- the answers

abbrev asked_reader : AskedRound → State
asked_reader c = state_of (peer_at c.after_ask c.first.reader.peer)

seat_asked : (c : AskedRound) → Seat (match c.first) c.first.writer c.first.reader.number (asked_reader c)
seat_asked c =
    ⊎_elim
    (λ e.
    subst (λ (n : ℕ). Seat (match c.first) c.first.writer c.first.reader.number (state_of (peer_at c.after_ask n)))
    (sym e)
    (took_seat (asks c) (heard_writer c.first) (asked_writer c) c.answers.step.dues (took c)
    (match c.first) c.first.writer c.first.reader.number
    (subst (λ (n : ℕ). Seat (match c.first) c.first.writer c.first.reader.number
    (state_of (peer_at (noted_beat c.first) n))) e (seat_noted c.told))))
    (λ apart.
    subst (λ (x : Peer). Seat (match c.first) c.first.writer c.first.reader.number (state_of x))
    (sym (delivered_others c.first.roster c.first.tests
    (noted_beat c.first) c.first.writer.peer c.ask 0 c.after_ask c.answers c.first.reader.peer apart))
    (seat_noted c.told))
    (number_or_not c.first.reader.peer c.first.writer.peer)

standing_asked : (c : AskedRound) → standing_of (asked_reader c) c.first.writer c.first.reader.number
    ≡ standing_of (heard_reader c.first) c.first.writer c.first.reader.number
standing_asked c =
    ⊎_elim
    (λ e.
    subst (λ (n : ℕ). standing_of (state_of (peer_at c.after_ask n)) c.first.writer c.first.reader.number
    ≡ standing_of (state_of (peer_at (noted_beat c.first) n)) c.first.writer c.first.reader.number) (sym e)
    (took_standing (asks c) (heard_writer c.first) (asked_writer c) c.answers.step.dues
    (took c) c.first.writer c.first.reader.number))
    (λ apart.
    ap (λ (x : Peer). standing_of (state_of x) c.first.writer c.first.reader.number)
    (delivered_others c.first.roster c.first.tests
    (noted_beat c.first) c.first.writer.peer c.ask 0 c.after_ask c.answers c.first.reader.peer apart))
    (number_or_not c.first.reader.peer c.first.writer.peer)
    ∙ standing_noted c.first

-- the network at the end of it
abbrev ask_event : AskedRound → WorldEvent
ask_event c = world.Deliver c.first.writer.peer c.answers.number

abbrev noted_ask : AskedRound → WorldState
noted_ask c = world_ended (noted_beat c.first) (ask_event c) c.after_ask

abbrev entity_of : AskedRound → EntityId
entity_of c = (took c).is.entity

abbrev dues_of : AskedRound → List Due
dues_of c = map (group_due (pairing c.first) (entity_of c) (writer_changes (there_after c))) (took c).takes.groups

sent_all : (c : AskedRound) → c.answers.step.packets ≡ map post (dues_of c)
sent_all c =
    all_sent c.answers.step.dues c.answers.step.packets 0 refl c.answers.step.are_sent
    ∙ ap (λ (ds : List Due). map post ds) (took c).takes.dues_are

all_writable : (c : AskedRound) → AllByRecursion (λ (d : Due). IsWritable d.message) (dues_of c)
all_writable c =
    subst (λ (ds : List Due). AllByRecursion (λ (d : Due). IsWritable d.message) ds) (took c).takes.dues_are
    (each_writable c.answers.step.dues c.answers.step.packets 0 refl c.answers.step.are_sent)

abbrev the_answers : AskedRound → List Answer
the_answers c = answers_of (asks c) (heard_writer c.first) (asked_writer c) c.answers.step.dues (took c)

-- a round of a reader that was not silent
record Round : Type 0 where
  given : AskedRound
  answered : (contacts_of given.first given.first.writer.number given.first.reader).silent ≡ false
  new : WorldState
  repairs : DeliversAll given.first.roster given.first.tests
      (noted_ask given) given.first.reader.peer given.answers.step.packets new

repaired : (c : Round) → Repaired (pairing c.given.first) (match c.given.first) (took c.given).takes.groups
    (noted_ask c.given) c.new
repaired c =
    answers_delivered (pairing c.given.first) c.given.first.tests (match c.given.first) (entity_of c.given)
    (reader_entities c.given.first.roster (reader_prefix (pairing c.given.first))
    (reader_prefix (pairing c.given.first))
    (entity_of c.given) c.given.first.pair.reader_entity c.given.first.reader
    (took c.given).is.from c.given.first.pair.is_reader)
    (writer_changes (there_after c.given)) (took c.given).takes.groups (all_writable c.given)
    (all_grouped (HasChange (writer_changes (there_after c.given))) _ (the_answers c.given) (took c.given).takes.groups
    (took c.given).takes.grouped
    (have_changes (there_after c.given) c.given.first.reader
    (requested (asked c.given).x.missing (asked_from c.given)
    (length (writer_changes (there_after c.given)))))) (noted_ask c.given) c.new
    (seat_ended (noted_beat c.given.first) (ask_event c.given) c.given.after_ask c.given.first.reader.peer
    (match c.given.first) c.given.first.writer c.given.first.reader.number (seat_asked c.given))
    (subst (λ (ps : List Packet). DeliversAll c.given.first.roster c.given.first.tests
    (noted_ask c.given) c.given.first.reader.peer ps c.new) (sent_all c.given) c.repairs)

-- ---- the window

abbrev new_reader : Round → State
new_reader c = state_of (peer_at c.new c.given.first.reader.peer)

takes_all : (c : Round) → TakesAnswers (match c.given.first) (the_answers c.given)
    (standing (answered (Some (asked c.given).x) (heard_of c.given.told))
    (own_reader (hears c.given.told).heard.part c.given.first.reader.number).happened)
    (standing_of (new_reader c) c.given.first.writer c.given.first.reader.number)
takes_all c =
    subst (λ (s : Standing). TakesAnswers (match c.given.first) (the_answers c.given) s
    (standing_of (new_reader c) c.given.first.writer c.given.first.reader.number))
    (standing_ended (noted_beat c.given.first)
    (ask_event c.given) c.given.after_ask c.given.first.reader.peer c.given.first.writer c.given.first.reader.number
    ∙ (standing_asked c.given ∙ standing_told c.given))
    (ungrouped (match c.given.first) _ (the_answers c.given) (took c.given).takes.groups
    (standing_of (state_of (peer_at (noted_ask c.given) c.given.first.reader.peer)) c.given.first.writer
    c.given.first.reader.number) (standing_of (new_reader c) c.given.first.writer c.given.first.reader.number)
    (took c.given).takes.grouped (repaired c).takes)

window : (c : Round) → IsRepaired (match c.given.first) (the_last c.given.first) (asked_from c.given)
    (started_at c.given.told) (standing_of (new_reader c) c.given.first.writer c.given.first.reader.number)
window c = record {
  first = (body c.given.told).first_sn;
  count = (body c.given.told).count;
  heard = standing_of (hears c.given.told).heard c.given.first.writer c.given.first.reader.number;
  hears = goes c.given.told;
  due = (asked c.given).x;
  tells =
      subst (λ (n : ℕ). Tells (heard_of c.given.told) n (asked c.given).x) (c.given.told.of.whole c.answered)
      (tells c.given);
  answers = the_answers c.given;
  complete = λ n has low high.
      let last = changes_there c.given in
      all_answered (there_after c.given) c.given.first.reader (asked_from c.given) (asked c.given).x.missing
      (asked c.given).writable.submessages.1.0.1.places n has low (omega (arith, last, high));
  takes = takes_all c;
}

low : (c : AskedRound) → asked_from c ≤ (asked c).x.base
low c =
    let on = forward c.told in
    let base = (tells c).base in
    let set = (tells c).set_base in
    let least =
    from_base (owed_there c) (took c).takes.acknowledged (asked c).x.missing.base
    (asked c).writable.submessages.1.0.1.first
    (⊎_elim (λ q. inl q) (λ p. inr (omega (arith, p, on, set, base))) (had_covered c)) in
    omega (arith, least, on, base, set)

caught : (c : Round) → HasGoneOn (match c.given.first) (the_last c.given.first)
    (started_at c.given.told).tracked.place
    (standing_of (new_reader c) c.given.first.writer c.given.first.reader.number)
unfolding window
caught c =
    (window_catches_up (match c.given.first) (the_last c.given.first) (asked_from c.given)
    (started_at c.given.told)
    (standing_of (new_reader c) c.given.first.writer c.given.first.reader.number) (window c) (low c.given)).0

-- ---- what holds after the round

row_new : (c : Round) → acknowledged_of (writer_at (machine_of c.new) c.given.first.writer).readers c.given.first.reader
    ≡ Some (known_to_writer c.given)
row_new c =
    ap (λ (w : Writer). acknowledged_of w.readers c.given.first.reader) (writer_is c.new c.given.first.writer)
    ∙ (ap (λ (rows : List ReaderProxy). acknowledged_of rows c.given.first.reader)
    ((repaired c).rows c.given.first.writer.number
    ∙ rows_ended (noted_beat c.given.first)
    (ask_event c.given) c.given.after_ask c.given.first.writer.peer c.given.first.writer.number)
    ∙ took_acknowledged (asks c.given) (heard_writer c.given.first) (asked_writer c.given) c.given.answers.step.dues
    (took c.given))

without_room : (c : Round) → IsFull (match c.given.first)
    (standing_of (new_reader c) c.given.first.writer c.given.first.reader.number)
    → HoldsWithoutRoom c.new c.given.first.writer c.given.first.reader
    (tracked_at c.new c.given.first.writer c.given.first.reader).place
without_room c f = record {
  publication = (match c.given.first).publication;
  handle = (repaired c).seat.handle;
  change = f.change;
  held = f.held;
  no_room = subst (λ (q : ReaderQos). has_room q (own_reader (new_reader c).part c.given.first.reader.number).happened
      (coming (match_of (new_reader c).part c.given.first.reader.number (match c.given.first).publication)
      (position_at (new_reader c).part c.given.first.reader.number
      (tracked_at c.new c.given.first.writer c.given.first.reader).place) f.change) ≡ false) (sym (repaired c).seat.qos)
      (subst (λ (n : ℕ). has_room (match c.given.first).qos
      (own_reader (new_reader c).part c.given.first.reader.number).happened
      (coming (record {
        qos = (match c.given.first).qos;
        publication = (match c.given.first).publication;
        moment = n;
      })
      (position_at (new_reader c).part c.given.first.reader.number
      (tracked_at c.new c.given.first.writer c.given.first.reader).place) f.change) ≡ false)
      (sym (repaired c).seat.moment) f.no_room);
}

round_catches_up : (c : Round) → HasCaughtUp c.new c.given.first.writer c.given.first.reader c.given.first.place
    (length (writer_changes (writer_at (machine_of c.given.first.old) c.given.first.writer)))
round_catches_up c = record {
  place = (tracked_at c.new c.given.first.writer c.given.first.reader).place;
  acknowledged = known_to_writer c.given;
  stands = record {
    here = (repaired c).seat.there;
    place_is = place_is c.new c.given.first.reader c.given.first.writer ∙ (repaired c).seat.place;
    attached = ap (λ (a : Attachment). is_attached a) (repaired c).seat.stands;
    known = refl;
    acknowledged_is = row_new c;
  };
  begun = (repaired c).seat.stands;
  reached =
      ⊎_elim (λ far. inl (let on = started_on c.given.told in let last = last_is in omega (arith, far, on, last)))
      (λ f. inr (without_room c f)) (caught c);
  told = let on = forward c.given.told in let set = (tells c.given).set_base in omega (arith, on, set);
}
  where
    last_is : length (writer_changes (writer_at (machine_of c.given.first.old) c.given.first.writer))
        ≡ the_last c.given.first
    last_is = ap (λ (w : Writer). length (writer_changes w)) (writer_is c.given.first.old c.given.first.writer)

-- the writer's values may be as long as before
values_there : (c : AskedRound) → (there_after c).max_value
    ≡ (writer_at (machine_of c.first.old) c.first.writer).max_value
values_there c =
    ap (λ (w : Writer). w.max_value) (took c).takes.there_is
    ∙ (values_heard c.first ∙ sym (ap (λ (w : Writer). w.max_value) (writer_is c.first.old c.first.writer)))

-- the answers go in so many packets at most
few_packets : (c : AskedRound)
    → length c.answers.step.packets ≤ packets_for (writer_at (machine_of c.first.old) c.first.writer).max_value
few_packets c =
    let few : length (took c).takes.groups
    ≤ packets_for (writer_at (machine_of c.first.old) c.first.writer).max_value =
    subst (λ (most : ℕ). length (took c).takes.groups ≤ packets_for most) (values_there c)
    (few_groups (there_after c).max_value (has_for (there_after c) c.first.reader) (asked c).x.missing (asked_from c)
    (length (writer_changes (there_after c))) (took c).takes.groups
    (took c).takes.grouped) in
    let sent = ap (λ (ps : List Packet). length ps) (sent_all c) in
    let posts = length-map (dues_of c) post in
    let dues =
    length-map (took c).takes.groups (group_due (pairing c.first) (entity_of c) (writer_changes (there_after c))) in
    omega (arith, few, sent, posts, dues)

-- a round, but for its answers, with what it rests on
the_asked : (roster : Roster) (tests : AllTests) (writer reader : Endpoint) (place acknowledged : ℕ)
    (old after : WorldState) → IsRoster roster → Sound roster old → HasUsedCounts roster old
    → IsBounded (machine_of old) → IsPair roster writer reader → StandsAt old writer reader place acknowledged
    → AsksInRound roster tests writer reader old after → AskedRound
the_asked roster tests writer reader place acknowledged old after checked sound used bounded pair stands asks =
    let first : Begun =
    the_begun roster tests writer reader place acknowledged old asks.heard checked sound used bounded pair stands
    asks.begins in
    record {
      first = first;
      told = asked_told first asks.ask asks.ask_count asks.ask_sent asks.ask_of;
      ask = asks.ask;
      ask_sent = asks.ask_sent;
      ask_count = asks.ask_count;
      ask_of = asks.ask_of;
      after_ask = after;
      answers = asks.answers;
    }

pub pair_catches_up : (roster : Roster) (tests : AllTests) (writer reader : Endpoint) (place acknowledged : ℕ)
    (old new : WorldState) → IsRoster roster → Sound roster old → HasUsedCounts roster old
    → IsBounded (machine_of old) → IsPair roster writer reader → StandsAt old writer reader place acknowledged
    → ((peer_at old writer.peer).known.answered writer.number reader).silent ≡ false
    → IsRepairRound roster tests writer reader old new
    → HasCaughtUp new writer reader place (length (writer_changes (writer_at (machine_of old) writer)))
unfolding the_asked
pair_catches_up roster tests writer reader place acknowledged old new checked sound used bounded pair stands spoken
    round =
    round_catches_up (record {
      given =
          the_asked roster tests writer reader place acknowledged old round.asked checked sound used bounded pair stands
          round.asks;
      answered = spoken;
      new = new;
      repairs = round.repairs;
    })

pub answers_are_few : (roster : Roster) (tests : AllTests) (writer reader : Endpoint) (place acknowledged : ℕ)
    (old after : WorldState) → IsRoster roster → Sound roster old → HasUsedCounts roster old
    → IsBounded (machine_of old) → IsPair roster writer reader → StandsAt old writer reader place acknowledged
    → (asks : AsksInRound roster tests writer reader old after)
    → length asks.answers.step.packets ≤ packets_for (writer_at (machine_of old) writer).max_value
unfolding the_asked
answers_are_few roster tests writer reader place acknowledged old after checked sound used bounded pair stands asks =
    few_packets
    (the_asked roster tests writer reader place acknowledged old after checked sound used bounded pair stands asks)
