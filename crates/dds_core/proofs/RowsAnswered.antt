-- A writer of the peer takes an ACKNACK of one of its matched readers, by the rules of the protocol.
use Rattle.std.proofs.Common.{◌≡◌, ◌⊎◌, ℕ, suc, ◌+◌, ◌<◌, ◌≤◌, ◌==◌, Bool, true, false, cond, ◌&&◌, ◌||◌, List, [], ◌∷◌, ◌++◌, Option, Some, None, map, max, take, length, get_or, slice_get, refl, ap, sym, ◌∙◌, subst, arith, inl, inr, ⊎_elim, length-append, nat_lt, eq-eqb, eqb-true}
use Rattle.std.specs.Prelude.{if◌then◌else◌, nat_le}
use Rattle.std.proofs.lemmas.Bool.Decides.{nat_tests}
use Rattle.std.proofs.lemmas.Option.{same_Some}
use Rattle.dds_protocol.specs.Roster.{Roster}
use Rattle.dds_base.specs.declared.guid.EntityId.{EntityId}
use Rattle.dds_base.specs.declared.guid.GuidPrefix.{GuidPrefix}
use Rattle.dds_base.specs.Kept.{is_kept}
use Rattle.dds_base.specs.Written.{changes_of}
use Rattle.rtps_wire.specs.declared.acknack.AckNack.{AckNack as AckNackBody}
use Rattle.rtps_wire.specs.declared.submessage.Submessage.TheVariants.{AckNack}
use Rattle.rtps_writer.specs.declared.answer.Answer.{Answer}
use Rattle.rtps_writer.specs.Acknack.{acknack_answers, after_acknack, answers_after, applied, is_applied, newly_acknowledged}
use Rattle.rtps_writer.specs.Answers.{answered_from as rtps_answered_from, answers_to, requested}
use Rattle.rtps_writer.specs.Standing.{StandsFor as RtpsStandsFor}
use Rattle.rtps_writer.specs.WriterState.{WriterState, acknowledged_by, last_of}
use Rattle.dds_base.specs.declared.endpoint.Endpoint.{Endpoint}
use Rattle.dds_machine.specs.declared.reply.Move.{Move}
use Rattle.dds_machine.specs.declared.reply.Move.TheVariants.{Acknowledged, Strange}
use Rattle.dds_protocol.specs.Claims.{Receiver, IsWriter, IsToWriter, Names}
use Rattle.dds_machine.specs.Part.{Part, ReaderProxy, Writer, no_writer, same_endpoint, history_of, at_writer, owed_from, writer_changes}
use Rattle.dds_protocol.specs.Peer.{Peer, state_of as network_of}
use Rattle.dds_protocol.specs.DueMessages.{Due, answer_message}
use Rattle.dds_protocol.specs.Contact.{Contact}
use Rattle.dds_protocol.specs.Protocol.{State, Known, SaysStranger, WriterTakes, AreGrouped, answers_per, TakesAckNack as TakesByRules, acknowledging, answered_from, asks_for_heartbeat, contact_after, has_for, is_taken_up, with_answered}
use Rattle.dds_protocol.proofs.Framing.{with_same}
use Rattle.dds_protocol.proofs.InOrder.{same_self}
use Rattle.dds_ends.specs.declared.answering.Answering.{Answering}
use Rattle.dds_ends.specs.declared.matching.ReaderName.{ReaderName}
use Rattle.dds_ends.specs.declared.match_counts.MatchCounts.{MatchCounts}
use Rattle.dds_ends.specs.declared.sending.Announced.{Announced}
use Rattle.dds_ends.specs.Answering.{IsFrom, IsUnaskedAt, SendsAnswers, TookAckNack, acknack_moves, acknowledged_moves, after_hearing, answer_due, heard_if, is_beyond}
use Rattle.dds_core.specs.Answering.{IsAskedWriter, RowTook}
use Rattle.dds_ends.specs.Beating.{AddsTo, due_to}
use Rattle.dds_ends.specs.Kept.{WriterKept}
use Rattle.dds_core.specs.Kept.{PeerKept}
use Rattle.dds_ends.specs.Identity.{IsWriterOf, WriterIdentity, writer_identity}
use Rattle.dds_ends.specs.MatchCounts.{CountsFor}
use Rattle.dds_ends.specs.MatchedEnds.{AreRows, IsNameOf, is_named, last_count, readers_of, topic_reader}
use Rattle.dds_core.specs.Receiving.{with_state, NeedsMemory}
use Rattle.dds_ends.specs.Standing.{AreQuiet, WriterStands, state_of}
use Rattle.dds_core.specs.Standing.{StandsFor}
use Rattle.dds_ends.proofs.Acknowledging.{IsOnly, IsCounted, only_row, acknowledged_is, acknowledged_then, answered_then, applied_is, low_of, owed_same, moves_then, not_same, readers_same, state_applied, still_begun}
use Rattle.dds_ends.proofs.Beating.{adds_none}
use Rattle.dds_core.proofs.Ends.{with_writer, writer_put}
use Rattle.dds_ends.proofs.Lists.{get-map, map-get}
use Rattle.dds_ends.proofs.MatchedAt.{not_named, once_at}
use Rattle.dds_core.proofs.Names.{own_end, own_writer_is}
use Rattle.dds_ends.proofs.Once.{Once}
use Rattle.dds_core.proofs.Tellable.{tellable_put}

-- ---- whom an ACKNACK is from, by the roster

-- what the roster says of a writer of the peer, and of the reliable readers that it is matched with
pub record IsOwn (roster : Roster) (kept : PeerKept) (number i : ℕ) (k : WriterKept) : Type 0 where
  pub from : IsWriter roster kept.prefix k.entity (own_end number i)
  pub once : Once (λ (n : ReaderName). n.reader) k.readers
  pub named : (row : ℕ) (name : ReaderName) → slice_get k.readers row ≡ Some name
      → IsNameOf roster (own_end number i) name

pub own_is : (roster : Roster) (peer : Peer) (kept : PeerKept) → StandsFor kept roster peer → (i : ℕ) (k : WriterKept)
    → slice_get kept.writers i ≡ Some k → IsOwn roster kept peer.number i k
own_is roster peer kept s i k at =
    let own : IsWriterOf roster (own_end peer.number i) (writer_identity k) =
    own_writer_is roster peer.number kept s.is_peer i k at in
    record {
      from = record { same_prefix = s.is_peer.prefix; at_writer = own.entity };
      once = once_at k.readers (s.writers.each i k at).rows.once;
      named = λ row name there. (own.ends.named row name there).name_is;
    }

abbrev pub to_writer : (roster : Roster) (peer : Peer) (kept : PeerKept) (i : ℕ) (k : WriterKept)
    (o : IsOwn roster kept peer.number i k) (at : Receiver) (a : AckNackBody) (name : ReaderName)
    → IsNameOf roster (own_end peer.number i) name
    → IsFrom kept.prefix k.entity at a name
    → IsToWriter roster kept.prefix at a.reader_id a.writer_id (own_end peer.number i) name.reader
to_writer roster peer kept i k o at a name n f = record {
  entity = name.guid.entity;
  from = record { same_prefix = n.is.same_prefix ∙ f.source; at_reader = n.is.at_reader };
  named = f.named;
  is_for = f.is_for;
  to =
      record {
        same_prefix = o.from.same_prefix;
        at_writer = o.from.at_writer ∙ ap (λ (e : EntityId). Some e) (sym f.writer);
      };
  matched = n.matched;
}

pub from_reader : (roster : Roster) (peer : Peer) (kept : PeerKept) (i : ℕ) (k : WriterKept)
    (o : IsOwn roster kept peer.number i k) (at : Receiver) (a : AckNackBody) (name : ReaderName)
    → IsNameOf roster (own_end peer.number i) name
    → IsToWriter roster kept.prefix at a.reader_id a.writer_id (own_end peer.number i) name.reader
    → IsFrom kept.prefix k.entity at a name
from_reader roster peer kept i k o at a name n to =
    let entity : to.entity ≡ name.guid.entity =
    same_Some to.entity name.guid.entity (sym to.from.at_reader ∙ n.is.at_reader) in
    record {
      named = subst (λ (x : EntityId). Names a.reader_id x) entity to.named;
      is_for = to.is_for;
      writer = same_Some a.writer_id k.entity (sym to.to.at_writer ∙ o.from.at_writer);
      source = sym n.is.same_prefix ∙ to.from.same_prefix;
    }

-- ---- one row

-- what the writer of this index did, by the rules, and what was sent
pub record RowAnswered (roster : Roster) (own : GuidPrefix) (at : Receiver) (a : AckNackBody) (writer : ℕ)
    (reader : Endpoint) (peer : Peer) (made : List Move) (sent : Announced) (new : PeerKept)
    (gone : Announced) : Type 0 where
  pub state : State
  pub dues : List Due
  pub takes : WriterTakes roster own peer.number at a writer reader (network_of peer) made dues state
  pub stands : StandsFor new roster (with_state peer state)
  pub adds : AddsTo dues sent gone

-- what is at hand where a row is answered
pub record Row : Type 0 where
  pub roster : Roster
  pub peer : Peer
  pub kept : PeerKept
  pub stands : StandsFor kept roster peer
  pub i : ℕ
  pub k : WriterKept
  pub at_k : slice_get kept.writers i ≡ Some k
  pub row : ℕ
  pub name : ReaderName
  pub at_name : slice_get k.readers row ≡ Some name

-- the reader of this row, by its name, at the writer as it was and as it is by now
pub record IsAtRow (k there : WriterKept) (row : ℕ) : Type 0 where
  pub name : ReaderName
  pub was : slice_get k.readers row ≡ Some name
  pub at : slice_get there.readers row ≡ Some name
  pub more : take (row + 1) k.readers ≡ take row k.readers ++ name ∷ []

-- its row, where the values stand for this peer
abbrev pub row_at : (kept : PeerKept) (i row : ℕ) (k there : WriterKept) → slice_get kept.writers i ≡ Some there
    → IsAtRow k there row → (roster : Roster) (peer : Peer) → StandsFor kept roster peer → Row
row_at kept i row k there at_there r roster peer stands = record {
  roster = roster;
  peer = peer;
  kept = kept;
  stands = stands;
  i = i;
  k = there;
  at_k = at_there;
  row = row;
  name = r.name;
  at_name = r.at;
}

-- what the roster says of its writer
own_of : (c : Row) → IsOwn c.roster c.kept c.peer.number c.i c.k
own_of c = own_is c.roster c.peer c.kept c.stands c.i c.k c.at_k

abbrev writer_of : Row → Writer
writer_of c = get_or c.peer.part.rtps.writers c.i no_writer

abbrev answered_of : Row → Endpoint → Contact
answered_of c = c.peer.known.answered (suc c.i)

abbrev stood : (c : Row) → WriterStands c.k (writer_of c) (answered_of c)
stood c = c.stands.writers.each c.i c.k c.at_k

-- the machine's row of the reader
record IsRow (c : Row) : Type 0 where
  proxy : ReaderProxy
  only : IsOnly (writer_of c).readers c.name.reader c.row proxy

row_is : (c : Row) → IsOwn c.roster c.kept c.peer.number c.i c.k → IsRow c
row_is c o =
    let rows : List ReaderProxy = (writer_of c).readers in
    let there : slice_get (map (λ (p : ReaderProxy). p.reader) rows) c.row ≡ Some c.name.reader =
    ap (λ (es : List Endpoint). slice_get es c.row) (stood c).readers
    ∙ map-get (λ (n : ReaderName). n.reader) c.k.readers c.row c.name c.at_name in
    let f = get-map (λ (p : ReaderProxy). p.reader) rows c.row c.name.reader there in
    let once : Once (λ (n : ReaderName). n.reader) c.k.readers = o.once in
    record {
      proxy = f.0;
      only = only_row rows c.name.reader c.row f.0 f.1 f.2 (λ j q at_q of_q.
          let named : slice_get (map (λ (n : ReaderName). n.reader) c.k.readers) j ≡ Some q.reader =
          ap (λ (es : List Endpoint). slice_get es j) (sym (stood c).readers)
          ∙ map-get (λ (p : ReaderProxy). p.reader) rows j q at_q in
          let g = get-map (λ (n : ReaderName). n.reader) c.k.readers j q.reader named in
          once j c.row g.0 c.name g.1 c.at_name (g.2 ∙ of_q));
    }

-- what is at hand where a row was answered
record Turn : Type 0 where
  c : Row
  own : IsOwn c.roster c.kept c.peer.number c.i c.k
  at : Receiver
  a : AckNackBody
  moves : List Move
  sent : Announced
  new : PeerKept
  after : List Move
  gone : Announced
  t : RowTook c.kept c.i c.row a c.k c.name moves sent new after gone

abbrev base_of : Turn → ℕ
base_of turn = turn.a.reader_sn_state.base

-- the writer before the ACKNACK, as RTPS sees it
abbrev before : Turn → WriterState
before turn = state_of (writer_of turn.c) (answered_of turn.c)

abbrev is_taken : Turn → Bool
is_taken turn = is_applied (before turn) turn.c.row (base_of turn) turn.a.count

row_of : (turn : Turn) → IsRow turn.c
row_of turn = row_is turn.c turn.own

abbrev answering_of : Turn → Answering
answering_of turn = record {
  own = turn.c.kept.prefix;
  entity = turn.c.k.entity;
  reader = turn.c.name;
  max_value = turn.c.k.max_value;
}

abbrev took : (turn : Turn)
    → TookAckNack turn.c.k turn.c.kept.prefix turn.c.row turn.a turn.sent turn.t.writer turn.t.acknowledged turn.gone
    (before turn)
took turn = turn.t.answers (before turn) (stood turn.c).writer

abbrev sends : (turn : Turn) → SendsAnswers (answering_of turn) (changes_of (writer_of turn.c).written)
    (acknack_answers (before turn) turn.c.row (base_of turn) turn.a.reader_sn_state turn.a.count) turn.sent turn.gone
sends turn = (took turn).sends turn.c.name turn.c.at_name

suc_of : (n : ℕ) → n + 1 ≡ suc n
suc_of n = omega arith

-- the peer goes on as this one, by the rules
abbrev GoesOn : Turn → PeerKept → Type 0
GoesOn turn new =
    RowAnswered turn.c.roster turn.c.kept.prefix turn.at turn.a (suc turn.c.i) turn.c.name.reader turn.c.peer
    (acknack_moves (turn.c.i + 1) turn.c.name.reader turn.t.acknowledged turn.t.strange) turn.sent new turn.gone

abbrev with_next : Turn → PeerKept
with_next turn = with_writer turn.c.kept turn.c.i turn.t.writer

-- its readers are named as they were
rows_again : (turn : Turn) → AreRows turn.t.writer.matched turn.t.writer.readers turn.t.writer.counts
rows_again turn =
    subst (λ (x : WriterIdentity). AreRows x.matched x.readers x.counts) (sym turn.t.same) (stood turn.c).rows

-- and its matches are as they were
matches_again : (turn : Turn) → CountsFor turn.t.writer.matches (writer_of turn.c).matches
matches_again turn =
    subst (λ (x : MatchCounts). CountsFor x (writer_of turn.c).matches) (sym turn.t.matches) (stood turn.c).matches

-- one that is taken acknowledges no more than was made
within_if_taken : (later : Bool) (base next : ℕ) → (later && nat_le base next) ≡ true → nat_lt next base ≡ false
within_if_taken true base next is =
    let low : base ≤ next = grind (arith, nat_tests) in
    grind (arith, nat_tests)
within_if_taken false base next is = cc

-- it acknowledges more, or it does not
beyond_by : (b : Bool) (next base : ℕ) → b ≡ nat_lt next base → b ≡ true → next < base
beyond_by b next base is holds =
    let less : nat_lt next base ≡ true = sym is ∙ holds in
    grind (arith, nat_tests)

within_by : (b : Bool) (next base : ℕ) → b ≡ nat_lt next base → b ≡ false → next < base → ⊥
within_by b next base is fails less =
    let more : nat_lt next base ≡ false = sym is ∙ fails in
    let low : base ≤ next = grind (arith, nat_tests) in
    omega (arith, low, less)

-- an ACKNACK that is taken
row_applied : (turn : Turn) → IsFrom turn.c.kept.prefix turn.c.k.entity turn.at turn.a turn.c.name
    → is_taken turn ≡ true → GoesOn turn (with_next turn)
row_applied turn from is = record {
  state = state;
  dues = dues;
  takes = inl (to, taken, takes);
  stands =
      writer_put turn.c.roster turn.c.peer turn.c.kept turn.c.stands turn.c.i turn.c.k turn.t.writer turn.c.at_k
      turn.t.same there known.answered stands others
      (tellable_put turn.c.peer.part (suc turn.c.i) there turn.c.stands.tellable refl);
  adds = subst (λ (ds : List Due). AddsTo ds turn.sent turn.gone) (same_dues (sends turn).groups) (sends turn).adds;
}
  where
    to : IsToWriter turn.c.roster turn.c.kept.prefix turn.at turn.a.reader_id turn.a.writer_id
        (own_end turn.c.peer.number turn.c.i) turn.c.name.reader
    to = to_writer turn.c.roster turn.c.peer turn.c.kept turn.c.i turn.c.k turn.own turn.at turn.a turn.c.name
        (turn.own.named turn.c.row turn.c.name turn.c.at_name) from

    not_strange : turn.t.strange ≡ false
    not_strange =
        turn.t.strange_is (before turn) (stood turn.c).writer
        ∙ within_if_taken _ (base_of turn) (last_of (before turn) + 1) is

    there : Writer
    there = acknowledging (writer_of turn.c) turn.c.name.reader (max (row_of turn).proxy.acknowledged (base_of turn))

    heard : Contact
    heard = contact_after (answered_of turn.c turn.c.name.reader) turn.a

    known : Known
    known = with_answered turn.c.peer.known (suc turn.c.i) turn.c.name.reader heard

    state : State
    state = record { part = at_writer turn.c.peer.part (suc turn.c.i) there; known = known }

    dues : List Due
    dues =
        map (λ (group : List Answer). due_to turn.c.name.reader.peer
        (answer_message turn.c.kept.prefix turn.at.source_guid_prefix turn.c.name.guid.entity turn.a.writer_id
        (writer_changes there) group)) (sends turn).groups

    same_dues : (groups : List (List Answer))
        → map (answer_due (answering_of turn) (changes_of (writer_of turn.c).written)) groups
        ≡ map (λ (group : List Answer). due_to turn.c.name.reader.peer
        (answer_message turn.c.kept.prefix turn.at.source_guid_prefix turn.c.name.guid.entity turn.a.writer_id
        (writer_changes there) group)) groups
    same_dues groups =
        ap (λ (p : GuidPrefix). map
        (λ (group : List Answer). due_to turn.c.name.reader.peer
        (answer_message turn.c.kept.prefix p turn.c.name.guid.entity turn.c.k.entity
        (changes_of (writer_of turn.c).written) group)) groups) from.source
        ∙ ap (λ (e : EntityId). map
        (λ (group : List Answer). due_to turn.c.name.reader.peer
        (answer_message turn.c.kept.prefix turn.at.source_guid_prefix turn.c.name.guid.entity e
        (changes_of (writer_of turn.c).written) group)) groups) (sym from.writer)

    counted : IsCounted (answered_of turn.c) (known.answered (suc turn.c.i)) turn.c.name.reader turn.a
    counted = record {
      here =
          ap (λ (b : Bool). cond (b && same_endpoint turn.c.name.reader turn.c.name.reader) heard
          (answered_of turn.c turn.c.name.reader)) (eq-eqb (suc turn.c.i) (suc turn.c.i) refl)
          ∙ ap (λ (b : Bool). cond b heard (answered_of turn.c turn.c.name.reader))
          (same_self turn.c.name.reader);
      others =
          λ e apart. ap (λ (b : Bool). cond (b && same_endpoint e turn.c.name.reader) heard
          (answered_of turn.c e)) (eq-eqb (suc turn.c.i) (suc turn.c.i) refl)
          ∙ ap (λ (b : Bool). cond b heard (answered_of turn.c e)) (not_same e turn.c.name.reader apart);
    }

    others : (j : ℕ) → (j ≡ turn.c.i → ⊥) → (e : Endpoint) → known.answered (suc j) e
        ≡ turn.c.peer.known.answered (suc j) e
    others j apart e =
        ap (λ (b : Bool). cond (b && same_endpoint e turn.c.name.reader) heard
        (turn.c.peer.known.answered (suc j) e)) (other (suc j == suc turn.c.i) refl)
      where
        other : (b : Bool) → (suc j == suc turn.c.i) ≡ b → (suc j == suc turn.c.i) ≡ false
        other true e = let same = eqb-true (suc j) (suc turn.c.i) e in absurd (apart (omega (arith, same)))
        other false e = e

    taken_up : WriterState
    taken_up = applied (before turn) turn.c.row (base_of turn) turn.a.count

    state_is : state_of there (known.answered (suc turn.c.i))
        ≡ heard_if true (asks_for_heartbeat turn.a) taken_up turn.c.row
    state_is =
        state_applied (writer_of turn.c) (answered_of turn.c)
        (known.answered (suc turn.c.i)) turn.c.name.reader turn.c.row (row_of turn).proxy (base_of turn) turn.a
        (row_of turn).only counted

    applied_then : after_acknack (before turn) turn.c.row (base_of turn) turn.a.count ≡ taken_up
    applied_then = ap (λ (b : Bool). if b then taken_up else (before turn)) is

    after_is : after_hearing (before turn) turn.c.row turn.a
        ≡ heard_if true (asks_for_heartbeat turn.a) taken_up turn.c.row
    after_is =
        ap (λ (b : Bool). heard_if b (asks_for_heartbeat turn.a) (if b then taken_up else (before turn)) turn.c.row) is

    stands : WriterStands turn.t.writer there (known.answered (suc turn.c.i))
    stands = record {
      autodispose = (stood turn.c).autodispose ∙ ap (λ (x : WriterIdentity). x.autodispose) (sym turn.t.same);
      values = (stood turn.c).values ∙ ap (λ (x : WriterIdentity). x.max_value) (sym turn.t.same);
      known = (stood turn.c).known ∙ ap (λ (x : WriterIdentity). map topic_reader x.known) (sym turn.t.same);
      matched = (stood turn.c).matched ∙ ap (λ (x : WriterIdentity). readers_of x.matched) (sym turn.t.same);
      readers =
          readers_same (writer_of turn.c).readers turn.c.name.reader
          (max (row_of turn).proxy.acknowledged (base_of turn))
          ∙ ((stood turn.c).readers ∙ ap (λ (x : WriterIdentity). map (λ (n : ReaderName). n.reader) x.readers)
          (sym turn.t.same));
      writer =
          subst (λ (x : WriterState). RtpsStandsFor turn.t.writer.writer x) (after_is ∙ sym state_is)
          (took turn).stands;
      begun =
          still_begun (writer_of turn.c).readers turn.c.name.reader
          (max (row_of turn).proxy.acknowledged (base_of turn)) most (stood turn.c).begun;
      rows = rows_again turn;
      counted =
          subst (λ (x : WriterIdentity). (reader : Endpoint) → is_named x.readers reader ≡ false
          → (known.answered (suc turn.c.i) reader).count ≡ last_count x.counts reader) (sym turn.t.same)
          (λ reader none. ap (λ (x : Contact). x.count) (counted.others reader
          (λ e. not_named turn.c.k.readers turn.c.row turn.c.name reader turn.c.at_name (sym e) none))
          ∙ (stood turn.c).counted reader none);
      quiet =
          subst (λ (x : WriterIdentity). AreQuiet x.matched x.readers (known.answered (suc turn.c.i))) (sym turn.t.same)
          (λ reader there none. ap (λ (x : Contact). x.silent) (counted.others reader
          (λ e. not_named turn.c.k.readers turn.c.row turn.c.name reader turn.c.at_name (sym e) none))
          ∙ (stood turn.c).quiet reader there none);
      matches = matches_again turn;
    }
      where
        most : 1 ≤ max (row_of turn).proxy.acknowledged (base_of turn)
        most =
            low_of (writer_of turn.c).readers turn.c.name.reader turn.c.row (row_of turn).proxy (base_of turn)
            (row_of turn).only (stood turn.c).begun

    taken : is_taken_up (network_of turn.c.peer) (suc turn.c.i) turn.c.name.reader turn.a ≡ true
    taken =
        sym (applied_is (writer_of turn.c) (answered_of turn.c) turn.c.name.reader turn.c.row (row_of turn).proxy
        (base_of turn) turn.a.count (row_of turn).only) ∙ is

    answers_are : acknack_answers (before turn) turn.c.row (base_of turn) turn.a.reader_sn_state turn.a.count
        ≡ answers_to (has_for there turn.c.name.reader)
        (requested turn.a.reader_sn_state
        (answered_from (owed_from there turn.c.name.reader) (row_of turn).proxy.acknowledged (base_of turn))
        (length (writer_changes there)))
    answers_are =
        let owed : ℕ = owed_from there turn.c.name.reader in
        let answers : ℕ → ℕ → List Answer =
        λ from first. answers_to (λ n. is_kept (history_of there) n && nat_le first n)
        (requested turn.a.reader_sn_state from (length (writer_changes there))) in
        ap (λ (b : Bool). if b then answers_after (applied (before turn) turn.c.row (base_of turn) turn.a.count)
        turn.c.row (base_of turn) turn.a.reader_sn_state else []) is
        ∙ (ap (λ (x : WriterState). answers_after x turn.c.row (base_of turn) turn.a.reader_sn_state) (sym state_is)
        ∙ (ap (λ (k : ℕ). answers (rtps_answered_from k
        (acknowledged_by (state_of there (known.answered (suc turn.c.i))) turn.c.row) (base_of turn)) k)
        (owed_same (writer_of turn.c) (known.answered (suc turn.c.i)) turn.c.name.reader turn.c.row
        (row_of turn).proxy (max (row_of turn).proxy.acknowledged (base_of turn)) (row_of turn).only)
        ∙ (ap (λ (n : ℕ). answers (rtps_answered_from owed n (base_of turn)) owed)
        (ap (λ (x : WriterState). acknowledged_by x turn.c.row) state_is
        ∙ acknowledged_then (writer_of turn.c) (answered_of turn.c) turn.c.name.reader turn.c.row
        (row_of turn).proxy (base_of turn) turn.a.count (row_of turn).only)
        ∙ ap (λ (n : ℕ). answers n owed)
        (answered_then owed (row_of turn).proxy.acknowledged (base_of turn)))))

    takes : TakesByRules turn.c.kept.prefix turn.at (network_of turn.c.peer)
        (suc turn.c.i) turn.c.name.reader turn.c.name.guid.entity turn.a
        (acknack_moves (turn.c.i + 1) turn.c.name.reader turn.t.acknowledged turn.t.strange) dues state
    takes = record {
      acknowledged = (row_of turn).proxy.acknowledged;
      matched =
          acknowledged_is (writer_of turn.c).readers turn.c.name.reader turn.c.row (row_of turn).proxy
          (row_of turn).only;
      moves_are =
          ap (λ (b : Bool). acknack_moves (turn.c.i + 1) turn.c.name.reader turn.t.acknowledged b) not_strange
          ∙ ap (λ (o : Option ℕ). acknowledged_moves (turn.c.i + 1) turn.c.name.reader o)
          ((took turn).acknowledged_is
          ∙ ap (λ (x : WriterState). newly_acknowledged (before turn) x turn.c.row) applied_then)
          ∙ (moves_then (writer_of turn.c) (answered_of turn.c) turn.c.name.reader turn.c.row (row_of turn).proxy
          (base_of turn) turn.a.count (turn.c.i + 1) (row_of turn).only
          ∙ ap (λ (n : ℕ). if nat_lt (row_of turn).proxy.acknowledged
          (base_of turn) then Acknowledged n turn.c.name.reader (base_of turn) ∷ [] else []) (suc_of turn.c.i));
      there = there;
      there_is = refl;
      groups = (sends turn).groups;
      grouped =
          subst (λ (most : ℕ). AreGrouped (answers_per most) (answers_to (has_for there turn.c.name.reader)
          (requested turn.a.reader_sn_state
          (answered_from (owed_from there turn.c.name.reader) (row_of turn).proxy.acknowledged (base_of turn))
          (length (writer_changes there)))) (sends turn).groups) (sym (stood turn.c).values)
          (subst (λ (xs : List Answer). AreGrouped (answers_per turn.c.k.max_value) xs (sends turn).groups) answers_are
          (sends turn).grouped);
      dues_are = refl;
      after = refl;
    }

-- one that is not
row_ignored : (turn : Turn) → IsFrom turn.c.kept.prefix turn.c.k.entity turn.at turn.a turn.c.name
    → is_taken turn ≡ false → GoesOn turn (with_next turn)
row_ignored turn from is = record {
  state = network_of turn.c.peer;
  dues = [];
  takes =
      inr (
        (λ to. sym (applied_is (writer_of turn.c) (answered_of turn.c) turn.c.name.reader turn.c.row
            (row_of turn).proxy (base_of turn) turn.a.count (row_of turn).only) ∙ is),
        (says turn.t.strange refl, refl, refl),
      );
  stands =
      subst (λ (p : Part). StandsFor (with_writer turn.c.kept turn.c.i turn.t.writer) turn.c.roster
      (record turn.c.peer { part = p })) part_is
      (writer_put turn.c.roster turn.c.peer turn.c.kept turn.c.stands turn.c.i turn.c.k turn.t.writer turn.c.at_k
      turn.t.same (writer_of turn.c) turn.c.peer.known.answered stands (λ j apart e. refl)
      (tellable_put turn.c.peer.part (suc turn.c.i) (writer_of turn.c) turn.c.stands.tellable refl));
  adds =
      subst (λ (ds : List Due). AddsTo ds turn.sent turn.gone)
      (ap (λ (gs : List (List Answer)). map (answer_due (answering_of turn) (changes_of (writer_of turn.c).written)) gs)
      (no_groups (sends turn).groups grouped)) (sends turn).adds;
}
  where
    strange_is : turn.t.strange ≡ is_beyond (before turn) (base_of turn)
    strange_is = turn.t.strange_is (before turn) (stood turn.c).writer

    grouped : AreGrouped (answers_per turn.c.k.max_value) [] (sends turn).groups
    grouped =
        subst (λ (xs : List Answer). AreGrouped (answers_per turn.c.k.max_value) xs (sends turn).groups)
        (ap (λ (b : Bool). if b then answers_after (applied (before turn) turn.c.row (base_of turn) turn.a.count)
        turn.c.row (base_of turn) turn.a.reader_sn_state else []) is)
        (sends turn).grouped

    no_groups : (groups : List (List Answer)) → AreGrouped (answers_per turn.c.k.max_value) [] groups → groups ≡ []
    no_groups [] g = refl
    no_groups (group ∷ groups) g =
        let some = g.2 in let size = ap (λ (xs : List Answer). length xs) g.1 in let all = length-append group g.0 in
        absurd (omega (arith, some, size, all))

    ignored_then : after_acknack (before turn) turn.c.row (base_of turn) turn.a.count ≡ (before turn)
    ignored_then =
        ap (λ (b : Bool). if b then applied (before turn) turn.c.row (base_of turn) turn.a.count else (before turn)) is

    after_is : after_hearing (before turn) turn.c.row turn.a ≡ (before turn)
    after_is =
        ap (λ (b : Bool). heard_if b (asks_for_heartbeat turn.a)
        (if b then applied (before turn) turn.c.row (base_of turn) turn.a.count else (before turn)) turn.c.row) is

    part_is : at_writer turn.c.peer.part (suc turn.c.i) (writer_of turn.c) ≡ turn.c.peer.part
    part_is =
        ap (λ (ws : List Writer). record turn.c.peer.part { rtps = record turn.c.peer.part.rtps { writers = ws } })
        (with_same turn.c.peer.part.rtps.writers (suc turn.c.i) no_writer)

    no_move : acknowledged_moves (turn.c.i + 1) turn.c.name.reader turn.t.acknowledged ≡ []
    no_move =
        ap (λ (o : Option ℕ). acknowledged_moves (turn.c.i + 1) turn.c.name.reader o)
        ((took turn).acknowledged_is
        ∙ (ap (λ (x : WriterState). newly_acknowledged (before turn) x turn.c.row) ignored_then
        ∙ still (acknowledged_by (before turn) turn.c.row)))
      where
        still : (n : ℕ) → (if nat_lt n n then Some n else None) ≡ None
        still n =
            let less : nat_lt n n
            ≡ false = grind (arith, nat_tests) in ap (λ (b : Bool). if b then Some n else None) less

    says : (b : Bool) → turn.t.strange ≡ b
        → SaysStranger turn.c.roster turn.c.kept.prefix turn.c.peer.number turn.at turn.a (suc turn.c.i)
        turn.c.name.reader (network_of turn.c.peer)
        (acknack_moves (turn.c.i + 1) turn.c.name.reader turn.t.acknowledged turn.t.strange)
    says true holds = inl (
      record {
        is = to_writer turn.c.roster turn.c.peer turn.c.kept turn.c.i turn.c.k turn.own turn.at turn.a turn.c.name
            (turn.own.named turn.c.row turn.c.name turn.c.at_name) from;
        acknowledged = (row_of turn).proxy.acknowledged;
        matched = acknowledged_is (writer_of turn.c).readers turn.c.name.reader turn.c.row (row_of turn).proxy
            (row_of turn).only;
        beyond = beyond_by turn.t.strange (last_of (before turn) + 1) (base_of turn) strange_is holds;
      },
      ap (λ (b : Bool). acknack_moves (turn.c.i + 1) turn.c.name.reader turn.t.acknowledged b) holds
          ∙ ap (λ (n : ℕ). Strange n turn.c.name.reader ∷ []) (suc_of turn.c.i),
    )
    says false fails = inr (
      λ s. within_by turn.t.strange (last_of (before turn) + 1) (base_of turn) strange_is fails s.beyond,
      ap (λ (b : Bool). acknack_moves (turn.c.i + 1) turn.c.name.reader turn.t.acknowledged b) fails ∙ no_move,
    )

    stands : WriterStands turn.t.writer (writer_of turn.c) (turn.c.peer.known.answered (suc turn.c.i))
    stands = record {
      autodispose = (stood turn.c).autodispose ∙ ap (λ (x : WriterIdentity). x.autodispose) (sym turn.t.same);
      values = (stood turn.c).values ∙ ap (λ (x : WriterIdentity). x.max_value) (sym turn.t.same);
      known = (stood turn.c).known ∙ ap (λ (x : WriterIdentity). map topic_reader x.known) (sym turn.t.same);
      matched = (stood turn.c).matched ∙ ap (λ (x : WriterIdentity). readers_of x.matched) (sym turn.t.same);
      readers =
          (stood turn.c).readers ∙ ap (λ (x : WriterIdentity). map (λ (n : ReaderName). n.reader) x.readers)
          (sym turn.t.same);
      writer = subst (λ (x : WriterState). RtpsStandsFor turn.t.writer.writer x) after_is (took turn).stands;
      begun = (stood turn.c).begun;
      rows = rows_again turn;
      counted =
          subst (λ (x : WriterIdentity). (reader : Endpoint) → is_named x.readers reader ≡ false
          → (turn.c.peer.known.answered (suc turn.c.i) reader).count ≡ last_count x.counts reader) (sym turn.t.same)
          (stood turn.c).counted;
      quiet =
          subst (λ (x : WriterIdentity). AreQuiet x.matched x.readers (answered_of turn.c)) (sym turn.t.same)
          (stood turn.c).quiet;
      matches = matches_again turn;
    }

-- a reader that the ACKNACK is from is answered
pub row_answered : (c : Row) (at : Receiver) (a : AckNackBody)
    → IsFrom c.kept.prefix c.k.entity at a c.name
    → (moves : List Move) (sent : Announced) (new : PeerKept) (after : List Move) (gone : Announced)
    → (t : RowTook c.kept c.i c.row a c.k c.name moves sent new after gone)
    → RowAnswered c.roster c.kept.prefix at a (suc c.i) c.name.reader c.peer
    (acknack_moves (c.i + 1) c.name.reader t.acknowledged t.strange) sent new gone
row_answered c at a from moves sent new after gone t = subst (GoesOn turn) (sym t.new_is) (by (is_taken turn) refl)
  where
    turn : Turn
    turn =
        record {
          c = c;
          own = own_of c;
          at = at;
          a = a;
          moves = moves;
          sent = sent;
          new = new;
          after = after;
          gone = gone;
          t =
              t;
        }

    by : (b : Bool) → is_taken turn ≡ b → GoesOn turn (with_next turn)
    by true is = row_applied turn from is
    by false is = row_ignored turn from is

-- neither of two
neither : (a b : Bool) → (a || b) ≡ false → (a ≡ false) × (b ≡ false)
neither true b h = cc
neither false b h = (refl, h)

-- a reader that the ACKNACK is not from, or for which it is not heeded, has nothing to be answered
pub row_unasked : (c : Row) (at : Receiver) (a : AckNackBody) → IsUnaskedAt c.kept.prefix at a c.k c.row
    → WriterTakes c.roster c.kept.prefix c.peer.number at a (suc c.i) c.name.reader (network_of c.peer) [] []
    (network_of c.peer)
row_unasked c at a unasked =
    let o : IsOwn c.roster c.kept c.peer.number c.i c.k = own_of c in
    let row : IsRow c = row_is c o in
    let state : WriterState = state_of (writer_of c) (answered_of c) in
    let base : ℕ = a.reader_sn_state.base in
    let not : (to : IsToWriter c.roster c.kept.prefix at a.reader_id a.writer_id (own_end c.peer.number c.i)
    c.name.reader) → (is_applied state c.row base a.count ≡ false) × (is_beyond state base ≡ false) =
    λ to. neither (is_applied state c.row base a.count) (is_beyond state base)
    (unasked c.name c.at_name
    (from_reader c.roster c.peer c.kept c.i c.k o at a c.name (o.named c.row c.name c.at_name) to) state
    (stood c).writer) in
    inr (
      λ to. sym (applied_is (writer_of c) (answered_of c) c.name.reader c.row row.proxy base a.count row.only)
          ∙ (not to).0,
      (inr ((λ s. within_by (is_beyond state base) (last_of state + 1) base refl (not s.is).1 s.beyond), refl), refl, refl),
    )

-- one of two
either : (a b : Bool) → (a || b) ≡ true → (a ≡ true) ⊎ (b ≡ true)
either true b h = inl refl
either false b h = inr h

-- one that it is from, and for which it is heeded, makes it one that may need memory
pub asked_needs : (old : PeerKept) (at : Receiver) (a : AckNackBody) (index : ℕ)
    → IsAskedWriter old.prefix at a old.writers index → NeedsMemory old at (AckNack a)
asked_needs old at a index is roster peer stands =
    let k : WriterKept = is.writer in
    let c : Row =
    record {
      roster = roster;
      peer = peer;
      kept = old;
      stands = stands;
      i = index;
      k = k;
      at_k = is.at_writer;
      row = is.row;
      name = is.asked.name;
      at_name = is.asked.there;
    } in
    let o : IsOwn roster old peer.number index k = own_of c in
    let row : IsRow c = row_is c o in
    let state : WriterState = state_of (writer_of c) (answered_of c) in
    let base : ℕ = a.reader_sn_state.base in
    let to = to_writer roster peer old index k o at a is.asked.name
    (o.named is.row is.asked.name is.asked.there) is.asked.from in (
      suc index,
      is.asked.name.reader,
      to,
      ⊎_elim
          (λ applied. inl (sym (applied_is (writer_of c) (answered_of c) is.asked.name.reader is.row row.proxy base
          a.count row.only) ∙ applied))
          (λ beyond. inr (record {
            is = to;
            acknowledged = row.proxy.acknowledged;
            matched = acknowledged_is (writer_of c).readers is.asked.name.reader is.row row.proxy row.only;
            beyond = beyond_by (is_beyond state base) (last_of state + 1) base refl beyond;
          }))
          (either (is_applied state is.row base a.count) (is_beyond state base) (is.asked.heeded state (stood c).writer)),
    )

-- a reader that the ACKNACK is not from has nothing to be answered
pub row_idle : (c : Row) (at : Receiver) (a : AckNackBody) (sent : Announced)
    → (IsFrom c.kept.prefix c.k.entity at a c.name → ⊥)
    → RowAnswered c.roster c.kept.prefix at a (suc c.i) c.name.reader c.peer [] sent c.kept sent
row_idle c at a sent not =
    let o : IsOwn c.roster c.kept c.peer.number c.i c.k = own_of c in
    record {
      state = network_of c.peer;
      dues = [];
      takes =
          inr (
            (λ to. absurd (not (from_reader c.roster c.peer c.kept c.i c.k o at a c.name
                (o.named c.row c.name c.at_name) to))),
            (
              inr (
                (λ s. not (from_reader c.roster c.peer c.kept c.i c.k o at a c.name
                    (o.named c.row c.name c.at_name) s.is)),
                refl,
              ),
              refl,
              refl,
            ),
          );
      stands = c.stands;
      adds = adds_none sent.packets.items sent.unsent;
    }
