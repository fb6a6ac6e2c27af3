-- The places of one of a peer's readers are tried again, one row after another, by the rules of the protocol.
use Rattle.std.proofs.Common.{◌≡◌, ℕ, suc, ◌+◌, ◌<◌, ◌≤◌, Bool, true, false, not, List, [], ◌∷◌, ◌++◌, Option, None, Some, Result, Ok, Err, drop, length, get_or, set, slice_get, refl, ap, sym, ◌∙◌, subst, arith, inl, inr, append_assoc}
use Rattle.std.specs.Prelude.{OnOk}
use Rattle.std.proofs.lemmas.List.{append-nil, length-map}
use Rattle.std.proofs.lemmas.Option.{same_Some}
use Rattle.dds_protocol.specs.Roster.{Roster}
use Rattle.dds_base.specs.declared.endpoint.Endpoint.{Endpoint}
use Rattle.dds_base.specs.declared.happening.Happening.{Happening}
use Rattle.dds_base.specs.Places.{Match}
use Rattle.rtps_reader.specs.declared.attachment.Attachment.{Attachment as AttachmentOf}
use Rattle.rtps_reader.specs.declared.attachment.Attachment.TheVariants as standing
use Rattle.rtps_reader.specs.Attached.{MeetsNews, goes_on, no_news}
use Rattle.rtps_reader.specs.Reader.{Tracks, how_at}
use Rattle.rtps_reader.specs.Tracked.{Tracked, is_waiting}
use Rattle.dds_machine.specs.declared.reply.Move.{Move}
use Rattle.dds_machine.specs.declared.reply.Report.{Report}
use Rattle.dds_machine.specs.Part.{Attachment, WriterProxy, own_proxies}
use Rattle.dds_protocol.specs.Peer.{Peer, state_of}
use Rattle.dds_protocol.specs.Protocol.{State, stands_to}
use Rattle.dds_protocol.specs.Resuming.{GoAgain, GoesAgain, MayGoAgain}
use Rattle.dds_core.specs.declared.effects.Effects.{Effects}
use Rattle.dds_ends.specs.declared.matching.WriterName.{WriterName}
use Rattle.dds_ends.specs.declared.sending.Announced.{Announced}
use Rattle.dds_ends.specs.Identity.{reader_identity}
use Rattle.dds_ends.specs.Kept.{ReaderKept}
use Rattle.dds_core.specs.Kept.{PeerKept}
use Rattle.dds_ends.specs.Readiness.{HasMemory, IsAlike}
use Rattle.dds_core.specs.Readiness.{moves_of}
use Rattle.dds_core.specs.Receiving.{CanTakeAt, StandsAsWell, TakesAt, TookAt, with_state}
use Rattle.dds_ends.specs.Resuming.{GoesOnAt}
use Rattle.dds_core.specs.Resuming.{HasRow, ResumesAll, RowNeedsMemory, SameRows, Tried, TriesRow, again}
use Rattle.dds_ends.specs.Standing.{IsFirstRow, stood_as}
use Rattle.dds_core.specs.Standing.{StandsFor}
use Rattle.dds_core.proofs.Ends.{with_reader}
use Rattle.dds_ends.proofs.Idle.{idle_step, waits_still}
use Rattle.dds_core.proofs.LastReader.{here_now}
use Rattle.dds_ends.proofs.Lists.{drop_end, drop_next, element, get-map, get-within, map-get, set_back}
use Rattle.dds_core.proofs.Makes.{set_get}
use Rattle.dds_core.proofs.Meeting.{Met, again_met, moves_at, told_match}
use Rattle.dds_ends.proofs.Rows.{proxied, writers_of}
use Rattle.dds_core.proofs.Taking.{stands_again}
use Rattle.dds_core.proofs.Takes.{Telling, known_of, reader_of, stands_here, stood}
use Rattle.dds_core.proofs.Turns.{idle_moves, rested}

-- ---- one row

-- the writer of a row stands in no earlier one
first_there : (roster : Roster) (peer : Peer) (kept : PeerKept) → StandsFor kept roster peer → (i row : ℕ)
    (k : ReaderKept) → slice_get kept.readers i ≡ Some k → (name : WriterName) → slice_get k.writers row ≡ Some name
    → IsFirstRow k.writers name.writer row
first_there roster peer kept s i row k at_k name at =
    let there = map-get reader_identity kept.readers i k at_k in
    record {
      name = name;
      at = at;
      is = refl;
      first = λ j x lt at_x same.
          let one : j ≡ row = s.is_peer.once i (reader_identity k) there j row x name at_x at same in
          omega (arith, lt, one);
    }

-- the reader of an index, and the writer of a row there
abbrev trying : (roster : Roster) (peer : Peer) (kept : PeerKept) → StandsFor kept roster peer → (i row : ℕ)
    (k : ReaderKept) → slice_get kept.readers i ≡ Some k → (name : WriterName) → slice_get k.writers row ≡ Some name
    → Telling
trying roster peer kept s i row k at_k name at = record {
  roster = roster;
  peer = peer;
  kept = kept;
  stands = s;
  i = i;
  k = k;
  at = at_k;
  writer = name.writer;
  row = row;
  first = first_there roster peer kept s i row k at_k name at;
}

-- what was met at a row is a try of its place
tried_so : (c : Telling) (k' : ReaderKept) (made : List Move)
    → Met c k' (λ s. GoesAgain (stood_as (how_at c.k.reader c.row)) (state_of c.peer) c.writer (suc c.i) made s)
    → Tried c.roster c.peer c.writer (suc c.i) made (with_reader c.kept c.i k')
tried_so c k' made m = record {
  state = m.state;
  goes =
      subst (λ (a : Attachment). GoesAgain a (state_of c.peer) c.writer (suc c.i) made m.state) (sym (stands_here c)) m.meets;
  stands = m.stands;
}

-- the place was tried again
row_tried : (roster : Roster) (peer : Peer) (kept new : PeerKept) (s : StandsFor kept roster peer) (i row : ℕ)
    (k : ReaderKept) (at_k : slice_get kept.readers i ≡ Some k) (name : WriterName)
    (at : slice_get k.writers row ≡ Some name) (moves : List Move) (sent : Announced) (after : List Move)
    (gone : Announced) (t : TookAt kept i (again row) k moves sent new after gone)
    → Tried roster peer name.writer (suc i) (moves_of t.name.writer (i + 1) t.from t.step) new
row_tried roster peer kept new s i row k at_k name at moves sent after gone t =
    let c : Telling = trying roster peer kept s i row k at_k name at in
    let knows : Tracks k.reader row (known_of c) = (stood c).knows c.writer row c.first in
    let tried =
    tried_so c t.reader (moves_at c t.from t.step)
    (again_met c t.reader t.from t.step (how_at k.reader row) (record {
      same = t.same;
      others = t.told.others;
      how = t.told.how;
      others_how = t.told.others_how;
      from_is = t.place (known_of c) knows;
    }) refl (t.told.told (known_of c) (reader_of c).happened knows (stood c).holds)) in
    subst (λ (x : PeerKept). Tried roster peer name.writer (suc i) (moves_of t.name.writer (i + 1) t.from t.step) x)
    (sym t.new_is)
    (subst (λ (n : WriterName). Tried roster peer name.writer (suc i) (moves_of n.writer (i + 1) t.from t.step)
    (with_reader kept i t.reader)) (same_Some name t.name (sym at ∙ t.at_name)) tried)

-- nothing is done where the place waits for what is not known, or has not begun
news_none : (a : AttachmentOf) (match : Match) (t : Tracked) (h : List Happening) (Knows : Tracked → Type 0)
    (Has : List Happening → Type 0) → goes_on a t ≡ false → Knows t → Has h
    → MeetsNews a match no_news t h (idle_step t) Knows Has
news_none standing.Begun match t h Knows Has is knows has =
    (refl, waits_still match t h Knows Has (waits (is_waiting t) is) knows has)
  where
    waits : (b : Bool) → not b ≡ false → b ≡ true
    waits true is = refl
    waits false is = absurd (let clash : true ≡ false = is in cc)
news_none standing.Waiting match t h Knows Has is knows has = rested t h Knows Has knows has
news_none standing.Away match t h Knows Has is knows has = rested t h Knows Has knows has

row_idles : (roster : Roster) (peer : Peer) (kept : PeerKept) (s : StandsFor kept roster peer) (i row : ℕ)
    (k : ReaderKept) (at_k : slice_get kept.readers i ≡ Some k) (name : WriterName)
    (at : slice_get k.writers row ≡ Some name) → GoesOnAt k row false
    → Tried roster peer name.writer (suc i) [] kept
row_idles roster peer kept s i row k at_k name at idle =
    let c : Telling = trying roster peer kept s i row k at_k name at in
    let knows : Tracks k.reader row (known_of c) = (stood c).knows c.writer row c.first in
    let tried =
    tried_so c k (moves_at c (known_of c).place (idle_step (known_of c)))
    (again_met c k (known_of c).place (idle_step (known_of c)) (how_at k.reader row) (record {
      same = record { entity = refl; writers = refl; qos = refl; seen = refl; matches = refl; here = refl };
      others = λ j t apart h. h;
      how = refl;
      others_how = λ j apart. refl;
      from_is = refl;
    }) refl
    (news_none (how_at k.reader row) (told_match c) (known_of c) (reader_of c).happened _ _
    (sym (idle (known_of c) knows)) knows (stood c).holds)) in
    subst (λ (x : PeerKept). Tried roster peer name.writer (suc i) [] x)
    (ap (λ (rs : List ReaderKept). record kept { readers = rs }) (set_back kept.readers i k k at_k refl))
    (subst (λ (ms : List Move). Tried roster peer name.writer (suc i) ms (with_reader kept i k))
    (idle_moves c.writer (i + 1) (known_of c)) tried)

-- something may go on there, so it may need memory
may_go_again : (a : AttachmentOf) (t : Tracked) → goes_on a t ≡ true → (a ≡ standing.Begun) × (is_waiting t ≡ false)
may_go_again standing.Begun t is = (refl, not_so (is_waiting t) is)
  where
    not_so : (b : Bool) → not b ≡ true → b ≡ false
    not_so false is = refl
    not_so true is = absurd (let clash : false ≡ true = is in cc)
may_go_again standing.Waiting t is = absurd (let clash : false ≡ true = is in cc)
may_go_again standing.Away t is = absurd (let clash : false ≡ true = is in cc)

pub row_needs : (kept : PeerKept) (i row : ℕ) (k : ReaderKept) → slice_get kept.readers i ≡ Some k → GoesOnAt k row true
    → RowNeedsMemory kept i row
row_needs kept i row k at_k goes roster peer s has =
    let is : k ≡ has.reader = same_Some k has.reader (sym at_k ∙ has.at) in
    let c : Telling = trying roster peer kept s i row has.reader has.at has.name has.at_row in
    let knows : Tracks has.reader.reader row (known_of c) = (stood c).knows c.writer row c.first in
    let here : GoesOnAt has.reader row true = subst (λ (x : ReaderKept). GoesOnAt x row true) is goes in
    let may = may_go_again (how_at has.reader.reader row) (known_of c) (sym (here (known_of c) knows)) in
    (stands_here c ∙ ap (λ (a : AttachmentOf). stood_as a) may.0, may.1)

-- the reader that is at hand is the one of the index
pub goes_here : (kept inside : PeerKept) → inside ≡ kept → (i row : ℕ) (k now d : ReaderKept) (answer does : Bool)
    → slice_get kept.readers i ≡ Some k → now ≡ get_or inside.readers i d → answer ≡ does → GoesOnAt now row answer
    → GoesOnAt k row does
goes_here kept inside view i row k now d answer does at is same goes =
    subst (λ (x : ReaderKept). GoesOnAt x row does) (here_now kept inside view i k now d at is)
    (subst (λ (b : Bool). GoesOnAt now row b) same goes)

-- ---- as a peer does it

-- nothing has changed of the rows
pub same_rows : (i : ℕ) (kept : PeerKept) → SameRows i kept kept
same_rows i kept = λ k at. (k, at, refl)

-- nothing may go on at the row
pub tries_none : (kept : PeerKept) (i row : ℕ) (effects : Effects) (k : ReaderKept)
    → slice_get kept.readers i ≡ Some k → GoesOnAt k row false → TriesRow kept i row effects kept effects
tries_none kept i row effects k at_k idle = record {
  made = [];
  after_is = sym (append-nil effects.moves.items);
  tries = λ roster peer s has.
      row_idles roster peer kept s i row has.reader has.at has.name has.at_row
      (subst (λ (x : ReaderKept). GoesOnAt x row false) (same_Some k has.reader (sym at_k ∙ has.at)) idle);
  rows = same_rows i kept;
}

-- the reader was told that the place is tried again
pub tries_row : (kept new : PeerKept) (i row : ℕ) (effects after : Effects) → CanTakeAt kept.readers i (again row)
    → TakesAt kept i (again row) effects new after → TriesRow kept i row effects new after
tries_row kept new i row effects after can takes =
    let k : ReaderKept = can.0 in
    let t : TookAt kept i (again row) k effects.moves.items effects.sent new after.moves.items after.sent =
    takes k can.1 in
    record {
      made = moves_of t.name.writer (i + 1) t.from t.step;
      after_is = t.after_is;
      tries = λ roster peer s has.
          let is : has.reader ≡ k = same_Some has.reader k (sym has.at ∙ can.1) in
          row_tried roster peer kept new s i row k can.1 has.name
          (subst (λ (x : ReaderKept). slice_get x.writers row ≡ Some has.name) is has.at_row) effects.moves.items
          effects.sent after.moves.items after.sent t;
      rows = λ x at_x.
          let is : x ≡ k = same_Some x k (sym at_x ∙ can.1) in (
            t.reader,
            there t.new_is,
            t.same.writers ∙ ap (λ (y : ReaderKept). y.writers) (sym is),
          );
    }
  where
    there : {x : ReaderKept} → new ≡ with_reader kept i x → slice_get new.readers i ≡ Some x
    there {x} is =
        ap (λ (q : PeerKept). slice_get q.readers i) is ∙ set_get kept.readers i can.0 x can.1

-- room was made at the row
pub row_ready : {X E : Type 0} (result : Result X E) (readers : List ReaderKept) (i row : ℕ) (k k' : ReaderKept)
    (name : WriterName) → slice_get readers i ≡ Some k → slice_get k.writers row ≡ Some name → IsAlike k k'
    → OnOk result (HasMemory k' row) → OnOk result (CanTakeAt (set readers i k') i (again row))
row_ready (Ok x) readers i row k k' name at at_row alike room = (
  k',
  set_get readers i k k' at,
  record {
    row =
        subst (λ (ns : List WriterName). row < length ns) (sym alike.writers) (get-within k.writers row name at_row);
    bounded = tt;
    room = room;
  },
)
row_ready (Err e) readers i row k k' name at at_row alike room = tt

-- which leaves the rows as they were
pub rows_ready : (old inside : PeerKept) → inside ≡ old → (i : ℕ) (k k' : ReaderKept) → slice_get old.readers i ≡ Some k
    → IsAlike k k' → SameRows i old (record inside { readers = set inside.readers i k' })
rows_ready old inside view i k k' at alike = λ x at_x. (
  k',
  set_get inside.readers i k k' (subst (λ (q : PeerKept). slice_get q.readers i ≡ Some k) (sym view) at),
  alike.writers ∙ ap (λ (y : ReaderKept). y.writers) (same_Some k x (sym at ∙ at_x)),
)

-- the rows are those of before
pub rows_on : (i : ℕ) (old now new : PeerKept) → SameRows i old now → SameRows i now new → SameRows i old new
rows_on i old now new first second k at =
    let here = first k at in let there = second here.0 here.1 in (there.0, there.1, there.2 ∙ here.2)

-- room was made for it before
pub tries_after : (old mid new : PeerKept) (i row : ℕ) (effects between after : Effects) → StandsAsWell old mid
    → SameRows i old mid → between.moves.items ≡ effects.moves.items → TriesRow mid i row between new after
    → TriesRow old i row effects new after
tries_after old mid new i row effects between after well rows same t = record {
  made = t.made;
  after_is = t.after_is ∙ ap (λ (ms : List Move). ms ++ t.made) same;
  tries = λ roster peer s has.
      let now = rows has.reader has.at in
      t.tries roster peer (well roster peer s) (record {
        reader = now.0;
        at = now.1;
        name = has.name;
        at_row = ap (λ (ns : List WriterName). slice_get ns row) now.2 ∙ has.at_row;
      });
  rows = rows_on i old mid new rows t.rows;
}

-- ---- one row after another

-- for a state that the old values stand for, the places at the rows before this one were tried again, with these moves:
-- whatever the others do, it follows on
pub record TriedTo (old : PeerKept) (i row : ℕ) (moves : List Move) (now : PeerKept) (roster : Roster)
    (peer : Peer) : Type 0 where
  pub state : State
  pub stands : StandsFor now roster (with_state peer state)
  pub on : (later : List Move) (refused : Option ℕ) (after : State)
      → GoAgain (suc i) row (drop row (own_proxies peer.part (suc i))) state later refused after
      → GoAgain (suc i) 0 (own_proxies peer.part (suc i)) (state_of peer) (moves ++ later) refused after

-- the same, said of each state that the old values stand for
abbrev pub TriesTo : PeerKept → ℕ → ℕ → List Move → PeerKept → Type 0
TriesTo old i row moves now =
    (roster : Roster) (peer : Peer) → StandsFor old roster peer → TriedTo old i row moves now roster peer

-- at first none
pub tries_first : (old : PeerKept) (i : ℕ) (moves : List Move) → moves ≡ [] → TriesTo old i 0 moves old
tries_first old i moves none roster peer s = record {
  state = state_of peer;
  stands = stands_again old roster peer (with_state peer (state_of peer)) refl refl refl s;
  on = λ later refused after h.
      subst (λ (ms : List Move). GoAgain (suc i) 0 (own_proxies peer.part (suc i)) (state_of peer) (ms ++ later) refused
      after) (sym none) h;
}

-- the row that is next, as the machine has it
next_row : (roster : Roster) (peer : Peer) (old : PeerKept) → StandsFor old roster peer → (i row : ℕ) (k : ReaderKept)
    → slice_get old.readers i ≡ Some k → (name : WriterName) → slice_get k.writers row ≡ Some name
    → (p : WriterProxy) × (slice_get (own_proxies peer.part (suc i)) row ≡ Some p) × (p.writer ≡ name.writer)
next_row roster peer old s i row k at_k name at =
    let same : proxied (own_proxies peer.part (suc i)) ≡ writers_of k.writers = (s.readers.each i k at_k).writers_are in
    get-map (λ (p : WriterProxy). p.writer) (own_proxies peer.part (suc i)) row name.writer
    (ap (λ (es : List Endpoint). slice_get es row) same
    ∙ map-get (λ (n : WriterName). n.writer) k.writers row name at)

-- it is there, while the reader knows the writers that it knew
abbrev pub has_row : (old now : PeerKept) (i row : ℕ) (k : ReaderKept) → slice_get old.readers i ≡ Some k
    → row < length k.writers → SameRows i old now → HasRow now i row
has_row old now i row k at_k within rows =
    let name = element k.writers row within in
    let here = rows k at_k in
    record {
      reader = here.0;
      at = here.1;
      name = name.0;
      at_row = ap (λ (ns : List WriterName). slice_get ns row) here.2 ∙ name.1;
    }

-- so many rows has the reader that is at hand
pub count_is : (kept inside : PeerKept) → inside ≡ kept → (i : ℕ) (k now d : ReaderKept) (count : ℕ)
    → slice_get kept.readers i ≡ Some k → now ≡ get_or inside.readers i d → count ≡ length now.writers
    → count ≡ length k.writers
count_is kept inside view i k now d count at is same =
    same ∙ ap (λ (x : ReaderKept). length x.writers) (here_now kept inside view i k now d at is)

-- one more
pub tries_more : (old now new : PeerKept) (i row : ℕ) (k : ReaderKept) (effects after : Effects)
    → slice_get old.readers i ≡ Some k → row < length k.writers → SameRows i old now
    → TriesTo old i row effects.moves.items now → TriesRow now i row effects new after
    → TriesTo old i (row + 1) after.moves.items new
tries_more old now new i row k effects after at_k within rows before more roster peer s =
    let name = element k.writers row within in
    let t : TriedTo old i row effects.moves.items now roster peer = before roster peer s in
    let r : Tried roster (with_state peer t.state) name.0.writer (suc i) more.made new =
    more.tries roster (with_state peer t.state) t.stands (has_row old now i row k at_k within rows) in
    let p = next_row roster peer old s i row k at_k name.0 name.1 in
    record {
      state = r.state;
      stands =
          stands_again new roster (with_state (with_state peer t.state) r.state) (with_state peer r.state) refl refl refl
          r.stands;
      on = λ later refused end h.
          let goes : GoesAgain (stands_to t.state p.0.writer (suc i)) t.state p.0.writer (suc i) more.made r.state =
          subst (λ (w : Endpoint). GoesAgain (stands_to t.state w (suc i)) t.state w (suc i) more.made r.state) (sym p.2)
          r.goes in
          let there : GoAgain (suc i) row (p.0 ∷ drop (row + 1) (own_proxies peer.part (suc i))) t.state
          (more.made ++ later) refused end = inr (more.made, later, r.state, refl, goes, h) in
          subst (λ (ms : List Move). GoAgain (suc i) 0 (own_proxies peer.part (suc i)) (state_of peer) ms refused end)
          (sym (append_assoc effects.moves.items more.made later)
          ∙ ap (λ (ms : List Move). ms ++ later) (sym more.after_is))
          (t.on (more.made ++ later) refused end
          (subst (λ (ps : List WriterProxy). GoAgain (suc i) row ps t.state (more.made ++ later) refused end)
          (sym (drop_next (own_proxies peer.part (suc i)) row p.0 p.1)) there));
    }

-- all were tried
pub tries_all : (old now : PeerKept) (i row : ℕ) (k : ReaderKept) (report : Report) → slice_get old.readers i ≡ Some k
    → length k.writers ≤ row → row ≤ length k.writers → TriesTo old i row report.moves now → report.refused ≡ None
    → ResumesAll old i report now
tries_all old now i row k report at_k low high before fine roster peer s =
    let t : TriedTo old i row report.moves now roster peer = before roster peer s in
    record {
      state = t.state;
      resumes = ends_so t (subst (λ (ps : List WriterProxy). GoAgain (suc i) row ps t.state [] report.refused t.state)
          (sym (drop_end (own_proxies peer.part (suc i)) row (many roster peer s))) (refl, fine, refl));
      stands = t.stands;
    }
  where
    many : (roster : Roster) (peer : Peer) → StandsFor old roster peer
        → length (own_proxies peer.part (suc i)) ≡ row
    many roster peer s =
        sym (length-map (own_proxies peer.part (suc i)) (λ (p : WriterProxy). p.writer))
        ∙ (ap (λ (es : List Endpoint). length es) (s.readers.each i k at_k).writers_are
        ∙ (length-map k.writers (λ (n : WriterName). n.writer) ∙ omega (arith, low, high)))

    ends_so : {roster : Roster} {peer : Peer} (t : TriedTo old i row report.moves now roster peer)
        → GoAgain (suc i) row (drop row (own_proxies peer.part (suc i))) t.state [] report.refused t.state
        → GoAgain (suc i) 0 (own_proxies peer.part (suc i)) (state_of peer) report.moves report.refused t.state
    ends_so {roster} {peer} t h =
        subst (λ (ms : List Move). GoAgain (suc i) 0 (own_proxies peer.part (suc i)) (state_of peer) ms report.refused
        t.state) (append-nil report.moves) (t.on [] report.refused t.state h)

-- one finds no memory, and those before it were tried
pub tries_some : (old now left : PeerKept) (i row : ℕ) (k : ReaderKept) (report : Report)
    → slice_get old.readers i ≡ Some k → row < length k.writers → SameRows i old now
    → TriesTo old i row report.moves now → RowNeedsMemory now i row → StandsAsWell now left
    → report.refused ≡ Some row → ResumesAll old i report left
tries_some old now left i row k report at_k within rows before needs well stop roster peer s =
    let name = element k.writers row within in
    let t : TriedTo old i row report.moves now roster peer = before roster peer s in
    let may : MayGoAgain t.state name.0.writer (suc i) =
    needs roster (with_state peer t.state) t.stands (has_row old now i row k at_k within rows) in
    let p = next_row roster peer old s i row k at_k name.0 name.1 in
    let stopped : GoAgain (suc i) row (p.0 ∷ drop (row + 1) (own_proxies peer.part (suc i))) t.state [] report.refused
    t.state =
    inl (refl, stop, refl, subst (λ (w : Endpoint). MayGoAgain t.state w (suc i)) (sym p.2) may) in
    record {
      state = t.state;
      resumes =
          subst (λ (ms : List Move). GoAgain (suc i) 0 (own_proxies peer.part (suc i)) (state_of peer) ms report.refused
          t.state) (append-nil report.moves)
          (t.on [] report.refused t.state
          (subst (λ (ps : List WriterProxy). GoAgain (suc i) row ps t.state [] report.refused t.state)
          (sym (drop_next (own_proxies peer.part (suc i)) row p.0 p.1)) stopped));
      stands = well roster (with_state peer t.state) t.stands;
    }
