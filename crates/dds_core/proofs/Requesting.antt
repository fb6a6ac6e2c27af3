-- The writer that an ACKNACK names answers its matched readers, one after the other, and the peer's other writers do
-- nothing.
use Rattle.std.proofs.Common.{◌≡◌, ℕ, zero, suc, ◌+◌, ◌<◌, Bool, List, [], ◌∷◌, ◌++◌, Option, Some, None, map, take, drop, set, length, get_or, slice_get, refl, ap, sym, ◌∙◌, subst, arith, inr, append_assoc, append-nil, length-set}
use Rattle.std.proofs.lemmas.List.{take_more, take_all}
use Rattle.std.proofs.lemmas.Option.{get_or_from_slice_get}
use Rattle.dds_protocol.specs.Roster.{Roster}
use Rattle.dds_base.specs.declared.guid.EntityId.{EntityId}
use Rattle.dds_base.specs.declared.guid.GuidPrefix.{GuidPrefix}
use Rattle.dds_base.specs.Kept.{numbers_from}
use Rattle.rtps_wire.specs.declared.acknack.AckNack.{AckNack as AckNackBody}
use Rattle.rtps_wire.specs.declared.submessage.Submessage.TheVariants.{AckNack}
use Rattle.dds_base.specs.declared.endpoint.Endpoint.{Endpoint}
use Rattle.dds_machine.specs.declared.reply.Move.{Move}
use Rattle.dds_protocol.specs.Claims.{Receiver, IsToWriter}
use Rattle.dds_machine.specs.Part.{ReaderProxy, no_writer, own_writer}
use Rattle.dds_protocol.specs.Peer.{Peer, state_of}
use Rattle.dds_protocol.specs.DueMessages.{Due}
use Rattle.dds_protocol.specs.Protocol.{State, InTurn, WriterTakes}
use Rattle.dds_protocol.proofs.OneName.{one_writer}
use Rattle.dds_ends.specs.declared.answering.Room.{Room}
use Rattle.dds_ends.specs.declared.matching.ReaderName.{ReaderName}
use Rattle.dds_core.specs.declared.effects.Effects.{Effects}
use Rattle.dds_ends.specs.declared.sending.Announced.{Announced}
use Rattle.rtps_writer.specs.Standing.{StandsFor as RtpsStandsFor}
use Rattle.rtps_writer.specs.WriterState.{WriterState}
use Rattle.dds_ends.specs.Answering.{IsRoom, AreRooms, TakesAckNack, acknack_moves, is_beyond}
use Rattle.dds_core.specs.Answering.{AsksNone, HaveRoom, RowTook, RowsTook, TakesAllRows, TakesRow, TakesRows}
use Rattle.dds_ends.specs.Kept.{WriterKept}
use Rattle.dds_core.specs.Kept.{PeerKept}
use Rattle.dds_ends.specs.Identity.{WriterIdentity, writer_identity}
use Rattle.dds_core.specs.Moved.{MovesKept}
use Rattle.dds_core.specs.Receiving.{with_state, TakesOneMore}
use Rattle.dds_core.specs.Standing.{StandsFor}
use Rattle.dds_ends.proofs.Beating.{adds_none, adds_on}
use Rattle.dds_ends.proofs.Lists.{element, get-within}
use Rattle.dds_core.proofs.Makes.{set_get}
use Rattle.dds_ends.proofs.Alike.{partner}
use Rattle.dds_core.proofs.Names.{own_end}
use Rattle.dds_core.proofs.RowsAnswered.{IsAtRow, IsOwn, RowAnswered, own_is, row_answered, row_idle, row_unasked, row_at}
use Rattle.dds_core.proofs.Turns.{number_at, turn_idle, turn_more}

-- ---- turns in which nothing, or one alone, does something

-- the numbers from the first one on, of which one alone does something
turn_only : (step : ℕ → State → List Move → List Due → State → Type 0) (first count i : ℕ) (old new : State)
    (made : List Move) (dues : List Due) → i < count
    → ((j : ℕ) → j < count → (j ≡ i → ⊥) → (s : State) → step (first + j) s [] [] s)
    → step (first + i) old made dues new → InTurn step (numbers_from first count) old made dues new
turn_only step first zero i old new made dues lt others one = absurd (omega (arith, lt))
turn_only step first (suc count) zero old new made dues lt others one =
    let here : first + 0 ≡ first = omega arith in (
      made,
      [],
      dues,
      [],
      new,
      sym (append-nil made),
      sym (append-nil dues),
      subst (λ (n : ℕ). step n old made dues new) here one,
      turn_idle step (numbers_from (first + 1) count) new (λ k x at.
          let f = number_at (first + 1) count k x at in
          let next : first + suc k ≡ x = let is = f.1 in omega (arith, is) in
          let lt = f.0 in
          subst (λ (n : ℕ). step n new [] [] new) next (others (suc k) (omega (arith, lt)) (λ e. absurd cc) new)),
    )
turn_only step first (suc count) (suc i) old new made dues lt others one =
    let here : first + 0 ≡ first = omega arith in
    let next : (j : ℕ) → first + suc j ≡ first + 1 + j = one_on first in (
      [],
      made,
      [],
      dues,
      old,
      refl,
      refl,
      subst (λ (n : ℕ). step n old [] [] old) here (others zero (omega arith) (λ e. absurd cc) old),
      turn_only step (first + 1) count i old new made dues (omega (arith, lt))
          (λ j low apart s. subst (λ (n : ℕ). step n s [] [] s) (next j)
          (others (suc j) (omega (arith, low)) (λ e. apart (omega (arith, e))) s))
          (subst (λ (n : ℕ). step n old made dues new) (next i) one),
    )
  where
    one_on : (a j : ℕ) → a + suc j ≡ a + 1 + j
    one_on a j = omega arith

-- turns of the same readers
turn_named : (step : Endpoint → State → List Move → List Due → State → Type 0) (names : List ReaderName)
    (rows : List ReaderProxy) (old new : State) (made : List Move) (dues : List Due)
    → map (λ (p : ReaderProxy). p.reader) rows ≡ map (λ (n : ReaderName). n.reader) names
    → InTurn (λ (n : ReaderName). step n.reader) names old made dues new
    → InTurn (λ (p : ReaderProxy). step p.reader) rows old made dues new
turn_named step [] [] old new made dues same h = h
turn_named step [] (p ∷ ps) old new made dues same h = absurd cc
turn_named step (n ∷ ns) [] old new made dues same h = absurd cc
turn_named step (n ∷ ns) (p ∷ ps) old new made dues same h =
    let first : n.reader ≡ p.reader = ap (λ (es : List Endpoint). get_or es 0 n.reader) (sym same) in
    let rest : map (λ (q : ReaderProxy). q.reader) ps ≡ map (λ (m : ReaderName). m.reader) ns =
    ap (λ (es : List Endpoint). drop 1 es) same in (
      h.0,
      h.1,
      h.2,
      h.3,
      h.4,
      h.5,
      h.6,
      subst (λ (e : Endpoint). step e old h.0 h.2 h.4) first h.7,
      turn_named step ns ps h.4 new h.1 h.3 rest h.8,
    )

-- ---- one reader after the other

pub rows_none : (old : PeerKept) (index : ℕ) (a : AckNackBody) (k : WriterKept) (rooms : List (Option Room))
    (effects : Effects) → slice_get old.writers index ≡ Some k → TakesRows old index a k rooms 0 effects old effects
rows_none old index a k rooms effects at_k = record {
  made = [];
  after_is = sym (append-nil effects.moves.items);
  takes =
      λ at are roster peer stands. record {
        state = state_of peer;
        dues = [];
        turn = (refl, refl, refl);
        stands = stands;
        adds = adds_none effects.sent.packets.items effects.sent.unsent;
      };
  there = k;
  at = at_k;
  same = refl;
  prefix = refl;
  others = refl;
}

at_row : (k there : WriterKept) (i : ℕ) → writer_identity there ≡ writer_identity k → i < length k.readers
    → IsAtRow k there i
at_row k there i same lt =
    let found = element k.readers i lt in
    record {
      name = found.0;
      was = found.1;
      at = ap (λ (x : WriterIdentity). slice_get x.readers i) same ∙ found.1;
      more =
          take_more k.readers i found.0 lt
          ∙ ap (λ (n : ReaderName). take i k.readers ++ n ∷ [])
          (get_or_from_slice_get k.readers i found.0 found.0 found.1);
    }

-- for each peer that the old values stand for, its writer did at the ACKNACK what it has to, as to this reader
abbrev AnswersRow : PeerKept → ℕ → AckNackBody → WriterKept → ReaderName → Option Room → List Move → Announced
    → PeerKept → Announced → Type 0
AnswersRow old index a k name room made sent new gone =
    (roster : Roster) (peer : Peer) → StandsFor old roster peer → (at : Receiver)
    → IsRoom old.prefix k.entity at a name room
    → RowAnswered roster old.prefix at a (suc index) name.reader peer made sent new gone

-- one row more was answered
row_more : (old now new : PeerKept) (index : ℕ) (a : AckNackBody) (k : WriterKept) (rooms : List (Option Room)) (i : ℕ)
    (room : Option Room) (one : List Move) (effects mid after : Effects)
    → (h : TakesRows old index a k rooms i effects now mid) (r : IsAtRow k h.there i)
    → slice_get rooms i ≡ Some room → AnswersRow now index a h.there r.name room one mid.sent new after.sent
    → (at : Receiver) → AreRooms old.prefix k.entity at a k.readers rooms → (roster : Roster) (peer : Peer)
    → StandsFor old roster peer
    → RowsTook roster old.prefix at a index (take (i + 1) k.readers) peer (h.made ++ one) effects.sent new after.sent
row_more old now new index a k rooms i room one effects mid after h r there answers at are roster peer stands =
    let sent = effects.sent in
    let went = mid.sent in
    let gone = after.sent in
    let before : RowsTook roster old.prefix at a index (take i k.readers) peer h.made sent now went =
    h.takes at are roster peer stands in
    let entity : h.there.entity ≡ k.entity = ap (λ (x : WriterIdentity). x.entity) h.same in
    let is : IsRoom now.prefix h.there.entity at a r.name room =
    subst (λ (p : GuidPrefix). IsRoom p h.there.entity at a r.name room) (sym h.prefix)
    (subst (λ (e : EntityId). IsRoom old.prefix e at a r.name room) (sym entity)
    (are.each i r.name room r.was there)) in
    let answered : RowAnswered roster now.prefix at a (suc index) r.name.reader (with_state peer before.state) one went
    new gone = answers roster (with_state peer before.state) before.stands at is in
    let takes : WriterTakes roster old.prefix peer.number at a (suc index) r.name.reader before.state one answered.dues
    answered.state =
    subst (λ (p : GuidPrefix). WriterTakes roster p peer.number at a (suc index) r.name.reader before.state one
    answered.dues answered.state) h.prefix answered.takes in
    record {
      state = answered.state;
      dues = before.dues ++ answered.dues;
      turn =
          subst (λ (ns : List ReaderName). InTurn
          (λ (n : ReaderName). WriterTakes roster old.prefix peer.number at a (suc index) n.reader) ns (state_of peer)
          (h.made ++ one) (before.dues ++ answered.dues) answered.state) (sym r.more)
          (turn_more (λ (n : ReaderName). WriterTakes roster old.prefix peer.number at a (suc index) n.reader)
          (take i k.readers) r.name (state_of peer) before.state answered.state h.made one before.dues answered.dues
          before.turn takes);
      stands = answered.stands;
      adds =
          adds_on before.dues answered.dues sent.packets.items went.packets.items gone.packets.items sent.unsent
          went.unsent gone.unsent before.adds answered.adds;
    }

-- nobody has room at this row
pub rows_skip : (old now : PeerKept) (index : ℕ) (a : AckNackBody) (k : WriterKept) (rooms : List (Option Room)) (i : ℕ)
    (effects after : Effects) → TakesRows old index a k rooms i effects now after → i < length k.readers
    → slice_get rooms i ≡ Some None → TakesRows old index a k rooms (i + 1) effects now after
rows_skip old now index a k rooms i effects after h lt none =
    let r = at_row k h.there i h.same lt in
    record {
      made = h.made ++ [];
      after_is = h.after_is ∙ ap (λ (ms : List Move). effects.moves.items ++ ms) (sym (append-nil h.made));
      takes =
          row_more old now now index a k rooms i None [] effects after after h r none
          (λ roster peer stands at not.
          row_idle (row_at now index i k h.there h.at r roster peer stands) at a after.sent not);
      there = h.there;
      at = h.at;
      same = h.same;
      prefix = h.prefix;
      others = h.others;
    }

-- this reader was answered
pub rows_more : (old now new : PeerKept) (index : ℕ) (a : AckNackBody) (k : WriterKept) (rooms : List (Option Room))
    (i : ℕ) (room : Room) (effects mid after : Effects) → TakesRows old index a k rooms i effects now mid
    → i < length k.readers → slice_get rooms i ≡ Some (Some room) → TakesRow now index i a mid new after
    → TakesRows old index a k rooms (i + 1) effects new after
rows_more old now new index a k rooms i room effects mid after h lt is took =
    let r = at_row k h.there i h.same lt in
    let t : RowTook now index i a h.there r.name mid.moves.items mid.sent new after.moves.items after.sent =
    took h.there r.name h.at r.at in
    let made : List Move = acknack_moves (index + 1) r.name.reader t.acknowledged t.strange in
    record {
      made = h.made ++ made;
      after_is =
          t.after_is
          ∙ (ap (λ (ms : List Move). ms ++ made) h.after_is ∙ append_assoc effects.moves.items h.made made);
      takes =
          row_more old now new index a k rooms i (Some room) made effects mid after h r is
          (λ roster peer stands at from.
          row_answered (row_at now index i k h.there h.at r roster peer stands) at a from.0 mid.moves.items mid.sent new
          after.moves.items after.sent t);
      there = t.writer;
      at = ap (λ (x : PeerKept). slice_get x.writers index) t.new_is ∙ set_get now.writers index h.there t.writer h.at;
      same = t.same ∙ h.same;
      prefix = ap (λ (x : PeerKept). x.prefix) t.new_is ∙ h.prefix;
      others = ap (λ (x : PeerKept). length x.writers) t.new_is ∙ (length-set now.writers index t.writer ∙ h.others);
    }

-- ---- all writers

-- each of the peer's writers but this one is not named
abbrev IsNamedAlone : Roster → Peer → PeerKept → Receiver → AckNackBody → ℕ → Type 0
IsNamedAlone roster peer kept at a index =
    (j : ℕ) → (j ≡ index → ⊥) → (e : Endpoint)
    → IsToWriter roster kept.prefix at a.reader_id a.writer_id (own_end peer.number j) e → ⊥

idle_writer : (roster : Roster) (peer : Peer) (own : GuidPrefix) (at : Receiver) (a : AckNackBody) (writer : ℕ)
    (rows : List ReaderProxy) (s : State)
    → ((e : Endpoint) → IsToWriter roster own at a.reader_id a.writer_id
    (record { peer = peer.number; number = writer }) e → ⊥)
    → InTurn (λ (p : ReaderProxy). WriterTakes roster own peer.number at a writer p.reader) rows s [] [] s
idle_writer roster peer own at a writer rows s not =
    turn_idle (λ (p : ReaderProxy). WriterTakes roster own peer.number at a writer p.reader) rows s
    (λ k p there. inr ((λ to. absurd (not p.reader to)), (inr ((λ r. not p.reader r.is), refl), refl, refl)))

-- the writer of this index took it up, once room was made for the moves, and no other one has to
pub writer_takes : (old new : PeerKept) (index : ℕ) (a : AckNackBody) (k : WriterKept) (rooms : List (Option Room))
    (at : Receiver) (effects : Effects) (moves : MovesKept) (after : Effects) → moves.items ≡ effects.moves.items
    → slice_get old.writers index ≡ Some k → k.entity ≡ a.writer_id
    → AreRooms old.prefix k.entity at a k.readers rooms
    → TakesAllRows old index a rooms (record effects { moves = moves }) new after
    → TakesOneMore old at (AckNack a) effects new after
writer_takes old new index a k rooms at effects moves after same at_k entity are all = record {
  made = h.made;
  after_is = h.after_is ∙ ap (λ (ms : List Move). ms ++ h.made) same;
  takes = λ roster peer stands.
      let sent = effects.sent in
      let gone = after.sent in
      let r : RowsTook roster old.prefix at a index (take (length k.readers) k.readers) peer h.made sent new gone =
      h.takes at are roster peer stands in
      let named : InTurn (λ (n : ReaderName). WriterTakes roster old.prefix peer.number at a (suc index) n.reader)
      k.readers (state_of peer) h.made r.dues r.state =
      subst (λ (ns : List ReaderName). InTurn
      (λ (n : ReaderName). WriterTakes roster old.prefix peer.number at a (suc index) n.reader) ns
      (state_of peer) h.made r.dues r.state) (take_all (length k.readers) k.readers (omega arith)) r.turn in
      let rows =
      turn_named (λ (e : Endpoint). WriterTakes roster old.prefix peer.number at a (suc index) e) k.readers
      (get_or peer.part.rtps.writers index no_writer).readers (state_of peer) r.state h.made r.dues
      (stands.writers.each index k at_k).readers named in
      let lt = get-within old.writers index k at_k in
      let count = stands.writers.count in
      let o : IsOwn roster old peer.number index k = own_is roster peer old stands index k at_k in
      record {
        state = r.state;
        dues = r.dues;
        takes =
            turn_only
            (λ (writer : ℕ). InTurn
            (λ (p : ReaderProxy). WriterTakes roster old.prefix peer.number at a writer p.reader)
            (own_writer peer.part writer).readers) 1 (length peer.part.rtps.writers) index
            (state_of peer) r.state h.made r.dues (omega (arith, lt, count))
            (λ j low apart s. idle_writer roster peer old.prefix at a (1 + j) (own_writer peer.part (1 + j)).readers s
            (λ e to_it.
            let to : IsToWriter roster old.prefix at a.reader_id a.writer_id (own_end peer.number j) e =
            subst (λ (n : ℕ). IsToWriter roster old.prefix at a.reader_id a.writer_id
            (record { peer = peer.number; number = n }) e) (one_on j) to_it in
            let one =
            one_writer roster old.prefix a.writer_id (own_end peer.number j)
            (own_end peer.number index) stands.is_peer.is_roster to.to
            (record {
              same_prefix = o.from.same_prefix;
              at_writer = o.from.at_writer ∙ ap (λ (x : EntityId). Some x) entity;
            }) in
            let same = ap (λ (x : Endpoint). x.number) one in apart (omega (arith, same))))
            (subst (λ (n : ℕ). InTurn (λ (p : ReaderProxy). WriterTakes roster old.prefix peer.number at a n p.reader)
            (own_writer peer.part n).readers (state_of peer) h.made r.dues r.state) (sym (one_on index)) rows);
        stands = r.stands;
        adds = r.adds;
      };
}
  where
    h : TakesRows old index a k rooms (length k.readers) (record effects { moves = moves }) new after
    h = all k at_k

    one_on : (j : ℕ) → 1 + j ≡ suc j
    one_on j = omega arith

-- no writer has a reader that it is from, and for which it is applied
pub nobody_takes : (old : PeerKept) (a : AckNackBody) (at : Receiver) (effects : Effects)
    → AsksNone old.prefix at a old.writers → TakesOneMore old at (AckNack a) effects old effects
nobody_takes old a at effects none = record {
  made = [];
  after_is = sym (append-nil effects.moves.items);
  takes = λ roster peer stands. record {
    state = state_of peer;
    dues = [];
    takes =
        turn_idle
        (λ (writer : ℕ). InTurn (λ (p : ReaderProxy). WriterTakes roster old.prefix peer.number at a writer p.reader)
        (own_writer peer.part writer).readers) (numbers_from 1 (length peer.part.rtps.writers)) (state_of peer)
        (λ j x there.
        let f = number_at 1 (length peer.part.rtps.writers) j x there in
        let lt = f.0 in
        let count = stands.writers.count in
        let found = element old.writers j (omega (arith, lt, count)) in
        let named : InTurn (λ (n : ReaderName). WriterTakes roster old.prefix peer.number at a (suc j) n.reader)
        found.0.readers (state_of peer) [] [] (state_of peer) =
        turn_idle (λ (n : ReaderName). WriterTakes roster old.prefix peer.number at a (suc j) n.reader) found.0.readers
        (state_of peer)
        (λ row name at_name. row_unasked (record {
          roster = roster;
          peer = peer;
          kept = old;
          stands = stands;
          i = j;
          k = found.0;
          at_k = found.1;
          row = row;
          name = name;
          at_name = at_name;
        }) at a (none j found.0 found.1 row)) in
        let rows =
        turn_named (λ (e : Endpoint). WriterTakes roster old.prefix peer.number at a (suc j) e) found.0.readers
        (get_or peer.part.rtps.writers j no_writer).readers (state_of peer) (state_of peer) [] []
        (stands.writers.each j found.0 found.1).readers named in
        subst (λ (n : ℕ). InTurn (λ (p : ReaderProxy). WriterTakes roster old.prefix peer.number at a n p.reader)
        (own_writer peer.part n).readers (state_of peer) [] [] (state_of peer)) (sym (next f.1)) rows);
    stands = stands;
    adds = adds_none effects.sent.packets.items effects.sent.unsent;
  };
}
  where
    next : {k x : ℕ} → x ≡ k + 1 → x ≡ suc k
    next is = omega (arith, is)

-- ---- what a row does

pub row_took : (old : PeerKept) (index row : ℕ) (a : AckNackBody) (k now k' : WriterKept) (name : ReaderName)
    (moves : List Move) (sent : Announced) (new : PeerKept) (after : List Move) (gone : Announced) (own : GuidPrefix)
    (acknowledged : Option ℕ) (strange : Bool) (reader : Endpoint) → now ≡ k
    → slice_get k.readers row ≡ Some name → writer_identity k' ≡ writer_identity now → k'.matches ≡ now.matches
    → own ≡ old.prefix
    → TakesAckNack now own row a sent k' acknowledged gone
    → ((s : WriterState) → RtpsStandsFor now.writer s → strange ≡ is_beyond s a.reader_sn_state.base)
    → ((n : ReaderName) → slice_get now.readers row ≡ Some n → reader ≡ n.reader)
    → new ≡ record old { writers = set old.writers index k' }
    → after ≡ moves ++ acknack_moves (index + 1) reader acknowledged strange
    → RowTook old index row a k name moves sent new after gone
row_took old index row a k now k' name moves sent new after gone own acknowledged strange reader is at_name same matches
    prefix takes strange_is named new_is after_is =
    let at_now : slice_get now.readers row ≡ Some name =
    ap (λ (x : WriterKept). slice_get x.readers row) is ∙ at_name in
    record {
      acknowledged = acknowledged;
      strange = strange;
      strange_is =
          subst (λ (x : WriterKept). (s : WriterState) → RtpsStandsFor x.writer s
          → strange ≡ is_beyond s a.reader_sn_state.base) is strange_is;
      writer = k';
      same = same ∙ ap writer_identity is;
      matches = matches ∙ ap (λ (x : WriterKept). x.matches) is;
      answers =
          subst (λ (x : WriterKept). TakesAckNack x old.prefix row a sent k' acknowledged gone) is
          (subst (λ (p : GuidPrefix). TakesAckNack now p row a sent k' acknowledged gone) prefix takes);
      new_is = new_is;
      after_is =
          after_is ∙ ap (λ (e : Endpoint). moves ++ acknack_moves (index + 1) e acknowledged strange) (named name at_now);
    }

-- the room of each row, where the ACKNACK is from its reader
pub have_room : (own : GuidPrefix) (entity : EntityId) (at : Receiver) (a : AckNackBody) (names : List ReaderName)
    (rooms : List (Option Room)) → AreRooms own entity at a names rooms → HaveRoom a.reader_sn_state rooms
have_room own entity at a names rooms are i room at_room =
    let f = partner names rooms i (Some room) are.count at_room in (are.each i f.0 (Some room) f.1 at_room).1
