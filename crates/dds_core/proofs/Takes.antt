-- A reader of a peer is told something by one of its writers: the stages by which the peer's part, and what it knows, go
-- on by the rules of the protocol, and that what is kept stands for the last one.
use Rattle.std.proofs.Common.{◌≡◌, ◌⊎◌, ℕ, ℤ, zero, suc, ◌+◌, Bool, true, false, List, [], ◌∷◌, Option, Some, set, slice_get, refl, ap, sym, ◌∙◌, subst, arith, inl, inr, ⊎_elim, nat_lt}
use Rattle.std.specs.Prelude.{max, if◌then◌else◌}
use Rattle.std.specs.Option.{option_map_or}
use Rattle.std.proofs.lemmas.Option.{same_Some}
use Rattle.dds_protocol.specs.Roster.{Roster}
use Rattle.dds_base.specs.declared.happening.Happening.{Happening}
use Rattle.dds_base.specs.declared.happening.PassedRun.{PassedRun}
use Rattle.dds_base.specs.declared.happening.Happening.TheVariants.{Heard as WasHeard}
use Rattle.dds_base.specs.declared.qos.ReaderQos.{ReaderQos}
use Rattle.dds_base.specs.Places.{Match}
use Rattle.dds_cache.specs.Standing.{qos_of}
use Rattle.rtps_reader.specs.Tracked.{Tracked, fresh}
use Rattle.rtps_reader.specs.Answer.{heard_after}
use Rattle.rtps_reader.specs.Reader.{Tracks, OthersStay, OthersStand, how_at, match_at}
use Rattle.dds_base.specs.declared.endpoint.Endpoint.{Endpoint}
use Rattle.dds_machine.specs.declared.reply.Move.{Move}
use Rattle.dds_machine.specs.declared.reply.Move.TheVariants.{Place, Heard, Begun as HasBegun}
use Rattle.dds_machine.specs.Numbered.{with_numbered, HasNumber}
use Rattle.dds_machine.specs.Part.{Attachment, Away, Waiting, Begun, how_of, is_attached, Part, Reader, WriterProxy, no_reader, own_proxies, own_reader, place_of, with_begun, with_place, with_heard, at_reader}
use Rattle.dds_machine.specs.Matching.{attached_count}
use Rattle.dds_machine.specs.Moves.{match_of}
use Rattle.dds_protocol.specs.Peer.{Peer, state_of}
use Rattle.dds_protocol.specs.Protocol.{State, GoesBy, Asserting, StartsAt, with_tracked}
use Rattle.dds_protocol.proofs.Attached.{how_begun, how_kept}
use Rattle.dds_protocol.proofs.Framing.{tracked_here, tracked_elsewhere, pair_or_not, with_same}
use Rattle.dds_machine.proofs.Tables.{numbered-same, begun-cases, begun-hits, place-cases, place-hits, place-heard, row-cases}
use Rattle.dds_ends.specs.declared.matching.WriterName.{WriterName}
use Rattle.dds_ends.specs.declared.match_counts.MatchCounts.{MatchCounts}
use Rattle.dds_ends.specs.MatchCounts.{CountsFor}
use Rattle.dds_ends.specs.Kept.{ReaderKept}
use Rattle.dds_core.specs.Kept.{PeerKept}
use Rattle.dds_ends.specs.Identity.{reader_identity}
use Rattle.dds_ends.specs.Readiness.{SameReader}
use Rattle.dds_core.specs.Receiving.{with_state}
use Rattle.dds_ends.specs.Standing.{HasNoRow, IsFirstRow, ReaderStands, stood_as}
use Rattle.dds_core.specs.Standing.{StandsFor}
use Rattle.dds_ends.specs.Storing.{Holds}
use Rattle.dds_ends.proofs.Attachments.{count_kept, count_set, one_if}
use Rattle.dds_core.proofs.Ends.{with_reader, with_read, own_reader_stepped}
use Rattle.dds_ends.proofs.Identities.{same_identity}
use Rattle.dds_ends.proofs.Lists.{get-within}
use Rattle.dds_ends.proofs.Rows.{writers_of, proxied, IsFirstOf, is_first_of, one_first, handle_is, place_there, writers_kept}

-- a reader of the peer, which is told something by the writer of one of its rows
pub record Telling : Type 0 where
  pub roster : Roster
  pub peer : Peer
  pub kept : PeerKept
  pub stands : StandsFor kept roster peer
  pub i : ℕ
  pub k : ReaderKept
  pub at : slice_get kept.readers i ≡ Some k
  pub writer : Endpoint
  pub row : ℕ
  pub first : IsFirstRow k.writers writer row

abbrev pub part_of : Telling → Part
part_of c = c.peer.part

abbrev pub known_of : Telling → Tracked
known_of c = c.peer.known.tracked c.writer (suc c.i)

abbrev pub proxies_of : Telling → List WriterProxy
proxies_of c = own_proxies c.peer.part (suc c.i)

abbrev pub reader_of : Telling → Reader
reader_of c = own_reader c.peer.part (suc c.i)

pub stood : (c : Telling) → ReaderStands c.k (proxies_of c) (reader_of c) (λ w. c.peer.known.tracked w (suc c.i))
stood c = c.stands.readers.each c.i c.k c.at

-- it stands first among the rows
pub stands_first : (c : Telling) (proxies : List WriterProxy) → proxied proxies ≡ writers_of c.k.writers
    → IsFirstOf (proxied proxies) c.writer c.row
stands_first c proxies same =
    subst (λ (es : List Endpoint). IsFirstOf es c.writer c.row) (sym same)
    (is_first_of c.k.writers c.writer c.row c.first)

-- how it stands to the writer
pub stands_here : (c : Telling) → how_of (proxies_of c) c.writer ≡ stood_as (how_at c.k.reader c.row)
stands_here c = (stood c).hows c.writer c.row c.first

-- its place there
pub placed : (c : Telling) → place_of (proxies_of c) c.writer ≡ Some (known_of c).place
placed c =
    let first = stands_first c (proxies_of c) (stood c).writers_are in
    let there = place_there (proxies_of c) c.writer c.row first in
    there.1 ∙ ap (λ (p : ℕ). Some p) (sym ((stood c).places c.writer there.0 there.1))

-- the reader's match with the writer, as it knows it
pub match_is : (c : Telling) → match_at (qos_of c.k.store.cache) c.row c.kept.moment
    ≡ match_of (part_of c) (suc c.i) (c.row + 1)
match_is c =
    same_match (qos_of c.k.store.cache) (reader_of c).qos (c.row + 1) c.kept.moment c.peer.part.dds.moment
    (sym (stood c).qos_is) (sym c.stands.moment)
  where
    same_match : (q r : ReaderQos) (p m n : ℕ) → q ≡ r → m ≡ n
        → ◌≡◌ {A = Match} (record { qos = q; publication = p; moment = m })
        (record { qos = r; publication = p; moment = n })
    same_match q r p m n e f = cc

-- there is such a reader
pub reader_there : (c : Telling) → HasNumber c.peer.part.rtps.readers (suc c.i)
reader_there c =
    let rows = c.stands.readers.rows in let within = get-within c.kept.readers c.i c.k c.at in
    (omega arith, omega (arith, rows, within))

dds_there : (c : Telling) → HasNumber c.peer.part.dds.readers (suc c.i)
dds_there c =
    let count = c.stands.readers.count in let within = get-within c.kept.readers c.i c.k c.at in
    (omega arith, omega (arith, count, within))

-- ---- the stages

-- The peer stands so while the reader is told something: the reader stands so to the writer, of which it knows this; it has
-- these rows, and this happened there. All else is as it was.
pub record Stage (c : Telling) (how : Attachment) (t : Tracked) (rows : List WriterProxy) (happened : List Happening)
    (s : State) : Type 0 where
  pub part : s.part ≡ with_read (part_of c) (suc c.i) rows (record (reader_of c) { happened = happened })
  pub counts : s.known.answered ≡ c.peer.known.answered
  pub here : s.known.tracked c.writer (suc c.i) ≡ t
  pub others : (w : Endpoint) (n : ℕ) → ((w ≡ c.writer) × (n ≡ suc c.i) → ⊥)
      → s.known.tracked w n ≡ c.peer.known.tracked w n
  pub writers : proxied rows ≡ proxied (proxies_of c)
  pub at : place_of rows c.writer ≡ Some t.place
  pub how_is : how_of rows c.writer ≡ how
  pub places : (w : Endpoint) → (w ≡ c.writer → ⊥) → place_of rows w ≡ place_of (proxies_of c) w
  pub hows : (w : Endpoint) → (w ≡ c.writer → ⊥) → how_of rows w ≡ how_of (proxies_of c) w
  pub matched : attached_count rows ≡ attached_count (proxies_of c)

-- the new reader, at the last stage
pub record After (c : Telling) (k' : ReaderKept) (how : Attachment) (t : Tracked) (happened : List Happening)
    : Type 0 where
  pub same : SameReader c.k k'
  pub others : OthersStay c.row c.k.reader k'.reader
  pub others_how : OthersStand c.row c.k.reader k'.reader
  pub how_is : how ≡ stood_as (how_at k'.reader c.row)
  pub knows : Tracks k'.reader c.row t
  pub holds : Holds k'.store happened

-- it stands for the reader of that stage
pub stage_ends : (c : Telling) (k' : ReaderKept) (how : Attachment) (t : Tracked) (rows : List WriterProxy)
    (happened : List Happening) (s : State) → Stage c how t rows happened s → After c k' how t happened
    → StandsFor (with_reader c.kept c.i k') c.roster (with_state c.peer s)
stage_ends c k' how t rows happened s g a =
    subst (λ (p : Part). StandsFor (with_reader c.kept c.i k') c.roster (record c.peer { part = p; known = s.known }))
    (sym g.part)
    (own_reader_stepped c.kept c.i c.k k' rows
    (record (reader_of c) { happened = happened }) s.known c.roster c.peer c.stands c.at identity g.counts
    (λ w n apart. g.others w n (λ e. apart e.1)) (record {
      writers_are =
          g.writers ∙ ((stood c).writers_are ∙ ap (λ (ns : List WriterName). writers_of ns) (sym a.same.writers));
      places = λ w p at. by_place w p at (pair_or_not w (suc c.i) c.writer (suc c.i));
      knows = λ w j f. by_row w j f (pair_or_not w (suc c.i) c.writer (suc c.i));
      others = λ w none. of_none w (subst (λ (ns : List WriterName). HasNoRow ns w) a.same.writers none);
      qos_is = (stood c).qos_is ∙ sym a.same.qos;
      holds = a.holds;
      seen_is = (stood c).seen_is ∙ sym a.same.seen;
      hows = λ w j f. by_how w j f (pair_or_not w (suc c.i) c.writer (suc c.i));
      counts = subst (λ (m : MatchCounts). CountsFor m (reader_of c).matches) (sym a.same.matches) (stood c).counts;
      here_is = a.same.here ∙ ((stood c).here_is ∙ sym g.matched);
    }))
  where
    identity : reader_identity k' ≡ reader_identity c.k
    identity = same_identity k' c.k a.same.entity a.same.writers a.same.qos

    by_place : (w : Endpoint) (p : ℕ) → place_of rows w ≡ Some p
        → ((w ≡ c.writer) × (suc c.i ≡ suc c.i)) ⊎ ((w ≡ c.writer) × (suc c.i ≡ suc c.i) → ⊥)
        → (s.known.tracked w (suc c.i)).place ≡ p
    by_place w p at (inl e) =
        ap (λ (x : Endpoint). (s.known.tracked x (suc c.i)).place) e.0
        ∙ (ap (λ (x : Tracked). x.place) g.here
        ∙ same_Some t.place p (sym g.at ∙ (ap (λ (x : Endpoint). place_of rows x) (sym e.0) ∙ at)))
    by_place w p at (inr n) =
        ap (λ (x : Tracked). x.place) (g.others w (suc c.i) n)
        ∙ (stood c).places w p (sym (g.places w (λ e. n (e, refl))) ∙ at)

    as_before : (w : Endpoint) (j : ℕ) → IsFirstRow k'.writers w j → IsFirstRow c.k.writers w j
    as_before w j f = subst (λ (ns : List WriterName). IsFirstRow ns w j) a.same.writers f

    this_row : (w : Endpoint) (j : ℕ) → IsFirstRow c.k.writers w j → w ≡ c.writer → j ≡ c.row
    this_row w j f e =
        one_first c.k.writers c.writer j c.row (subst (λ (x : Endpoint). IsFirstRow c.k.writers x j) e f) c.first

    other_row : (w : Endpoint) (j : ℕ) → IsFirstRow c.k.writers w j → j ≡ c.row → w ≡ c.writer
    other_row w j f e =
        let names : f.name ≡ c.first.name =
        same_Some f.name c.first.name (sym f.at ∙ (ap (λ (n : ℕ). slice_get c.k.writers n) e ∙ c.first.at)) in
        sym f.is ∙ (ap (λ (x : WriterName). x.writer) names ∙ c.first.is)

    by_row : (w : Endpoint) (j : ℕ) → IsFirstRow k'.writers w j
        → ((w ≡ c.writer) × (suc c.i ≡ suc c.i)) ⊎ ((w ≡ c.writer) × (suc c.i ≡ suc c.i) → ⊥)
        → Tracks k'.reader j (s.known.tracked w (suc c.i))
    by_row w j f (inl e) =
        let same : j ≡ c.row = this_row w j (as_before w j f) e.0 in
        subst (λ (x : Tracked). Tracks k'.reader j x)
        (sym (ap (λ (x : Endpoint). s.known.tracked x (suc c.i)) e.0 ∙ g.here))
        (subst (λ (n : ℕ). Tracks k'.reader n t) (sym same) a.knows)
    by_row w j f (inr n) =
        let before : IsFirstRow c.k.writers w j = as_before w j f in
        subst (λ (x : Tracked). Tracks k'.reader j x) (sym (g.others w (suc c.i) n))
        (a.others j (c.peer.known.tracked w (suc c.i)) (λ e. n (other_row w j before e, refl))
        ((stood c).knows w j before))

    of_none : (w : Endpoint) → HasNoRow c.k.writers w → s.known.tracked w (suc c.i) ≡ fresh
    of_none w none =
        g.others w (suc c.i) (λ e. none c.row c.first.name c.first.at (c.first.is ∙ sym e.0)) ∙ (stood c).others w none

    by_how : (w : Endpoint) (j : ℕ) → IsFirstRow k'.writers w j
        → ((w ≡ c.writer) × (suc c.i ≡ suc c.i)) ⊎ ((w ≡ c.writer) × (suc c.i ≡ suc c.i) → ⊥)
        → how_of rows w ≡ stood_as (how_at k'.reader j)
    by_how w j f (inl e) =
        let same : j ≡ c.row = this_row w j (as_before w j f) e.0 in
        ap (λ (x : Endpoint). how_of rows x) e.0
        ∙ (g.how_is ∙ (a.how_is ∙ ap (λ (n : ℕ). stood_as (how_at k'.reader n)) (sym same)))
    by_how w j f (inr n) =
        let before : IsFirstRow c.k.writers w j = as_before w j f in
        g.hows w (λ e. n (e, refl))
        ∙ ((stood c).hows w j before
        ∙ ap (λ x. stood_as x) (sym (a.others_how j (λ e. n (other_row w j before e, refl)))))

-- at first it is as the peer was
pub at_first : (c : Telling) (how : Attachment) → how_of (proxies_of c) c.writer ≡ how
    → Stage c how (known_of c) (proxies_of c) (reader_of c).happened (state_of c.peer)
at_first c how is = record {
  part = sym part_same;
  counts = refl;
  here = refl;
  others = λ w n apart. refl;
  writers = refl;
  at = placed c;
  how_is = is;
  places = λ w apart. refl;
  hows = λ w apart. refl;
  matched = refl;
}
  where
    part_same : with_read (part_of c) (suc c.i) (proxies_of c)
        (record (reader_of c) { happened = (reader_of c).happened }) ≡ part_of c
    part_same =
        ap (λ all. record (part_of c) {
          rtps = record (part_of c).rtps { readers = all };
          dds = record (part_of c).dds
              { readers = with_numbered c.peer.part.dds.readers (suc c.i) (reader_of c) };
        })
        (with_same c.peer.part.rtps.readers (suc c.i) [])
        ∙ ap (λ all. record (part_of c) { dds = record (part_of c).dds { readers = all } })
        (with_same c.peer.part.dds.readers (suc c.i) no_reader)

-- ---- what a stage has

rows_are : (c : Telling) (how : Attachment) (t : Tracked) (rows : List WriterProxy) (happened : List Happening)
    (s : State) → Stage c how t rows happened s → own_proxies s.part (suc c.i) ≡ rows
rows_are c how t rows happened s g =
    ap (λ (p : Part). own_proxies p (suc c.i)) g.part
    ∙ numbered-same c.peer.part.rtps.readers (suc c.i) rows [] (reader_there c)

pub reader_is : (c : Telling) (how : Attachment) (t : Tracked) (rows : List WriterProxy) (happened : List Happening)
    (s : State) → Stage c how t rows happened s
    → own_reader s.part (suc c.i) ≡ record (reader_of c) { happened = happened }
reader_is c how t rows happened s g =
    ap (λ (p : Part). own_reader p (suc c.i)) g.part
    ∙ numbered-same c.peer.part.dds.readers (suc c.i) (record (reader_of c) { happened = happened }) no_reader
    (dds_there c)

match_there : (c : Telling) (how : Attachment) (t : Tracked) (rows : List WriterProxy) (happened : List Happening)
    (s : State) → Stage c how t rows happened s
    → match_at (qos_of c.k.store.cache) c.row c.kept.moment ≡ match_of s.part (suc c.i) (c.row + 1)
match_there c how t rows happened s g =
    match_is c
    ∙ sym (ap (λ (p : Part). match_of p (suc c.i) (c.row + 1)) g.part
    ∙ ap (λ (r : Reader). matched_as r) (numbered-same c.peer.part.dds.readers (suc c.i)
    (record (reader_of c) { happened = happened }) no_reader (dds_there c)))
  where
    matched_as : Reader → Match
    matched_as r = record { qos = r.qos; publication = c.row + 1; moment = c.peer.part.dds.moment }

-- what is set twice is what was set last
with_twice : {X : Type 0} (xs : List X) (n : ℕ) (x y : X)
    → with_numbered (with_numbered xs n x) n y ≡ with_numbered xs n y
with_twice xs zero x y = refl
with_twice {X = X} xs (suc i) x y = set_twice xs i
  where
    set_twice : (xs : List X) (i : ℕ) → set (set xs i x) i y ≡ set xs i y
    set_twice [] i = refl
    set_twice (a ∷ as') zero = refl
    set_twice (a ∷ as') (suc i) = ap (λ zs. a ∷ zs) (set_twice as' i)

read_twice : (p : Part) (n : ℕ) (rows later : List WriterProxy) (r : Reader) (happened : List Happening)
    → HasNumber p.dds.readers n
    → at_reader (with_read p n rows r) n later happened ≡ with_read p n later (record r { happened = happened })
read_twice p n rows later r happened there =
    ap (λ (x : Reader). with_read (with_read p n rows r) n later (record x { happened = happened }))
    (numbered-same p.dds.readers n r no_reader there)
    ∙ (ap (λ (all : List (List WriterProxy)). record p {
      rtps = record p.rtps { readers = all };
      dds = record p.dds
          { readers = with_numbered (with_numbered p.dds.readers n r) n (record r { happened = happened }) };
    }) (with_twice p.rtps.readers n rows later)
    ∙ ap (λ (all : List Reader). record p {
      rtps = record p.rtps { readers = with_numbered p.rtps.readers n later };
      dds = record p.dds { readers = all };
    }) (with_twice p.dds.readers n r (record r { happened = happened })))

-- with other rows, and after something else happened
put_again : (c : Telling) (how : Attachment) (t : Tracked) (rows : List WriterProxy) (happened : List Happening)
    (s : State) → Stage c how t rows happened s → (later : List WriterProxy) (after : List Happening)
    → at_reader s.part (suc c.i) later after
    ≡ with_read (part_of c) (suc c.i) later (record (reader_of c) { happened = after })
put_again c how t rows happened s g later after =
    ap (λ (p : Part). at_reader p (suc c.i) later after) g.part
    ∙ read_twice (part_of c) (suc c.i) rows later (record (reader_of c) { happened = happened }) after (dds_there c)

-- ---- the writer is heard, if it is

abbrev pub heard_happened : Bool → Telling → List Happening
heard_happened true c = WasHeard (c.row + 1) c.peer.part.dds.moment ∷ (reader_of c).happened
heard_happened false c = (reader_of c).happened

abbrev pub heard_rows : Bool → Telling → ℤ → List WriterProxy
heard_rows true c count = with_heard (proxies_of c) c.writer count
heard_rows false c count = proxies_of c

abbrev pub heard_state : Bool → Telling → ℤ → State
heard_state true c count =
    record (state_of c.peer) {
      part = at_reader (part_of c) (suc c.i) (with_heard (proxies_of c) c.writer count) (heard_happened true c);
    }
heard_state false c count = state_of c.peer

abbrev pub heard_moves : Bool → Telling → List Move
heard_moves b c = if b then Heard c.writer (suc c.i) ∷ [] else []

pub heard_asserts : (b : Bool) (c : Telling) (count : ℤ) → is_attached (how_of (proxies_of c) c.writer) ≡ true
    → Asserting b (state_of c.peer) c.writer (suc c.i) count (heard_moves b c) (heard_state b c count)
heard_asserts true c count here = (
  record {
    publication = c.row + 1;
    handle = handle_is (proxies_of c) c.writer c.row (stands_first c (proxies_of c) (stood c).writers_are);
    here = here;
    after = refl;
  },
  refl,
)
heard_asserts false c count here = (refl, refl)

pub heard_stage : (b : Bool) (c : Telling) (count : ℤ) (how : Attachment) → how_of (proxies_of c) c.writer ≡ how
    → Stage c how (known_of c) (heard_rows b c count) (heard_happened b c) (heard_state b c count)
heard_stage true c count how is = record {
  part = refl;
  counts = refl;
  here = refl;
  others = λ w n apart. refl;
  writers = writers_kept (λ (p : WriterProxy). record p { heard = Some count }) (λ p. refl) (proxies_of c) c.writer;
  at = place-heard (proxies_of c) c.writer count c.writer ∙ placed c;
  how_is = stays c.writer ∙ is;
  places = λ w apart. place-heard (proxies_of c) c.writer count w;
  hows = λ w apart. stays w;
  matched = count_kept (λ (p : WriterProxy). record p { heard = Some count }) (λ p. refl) (proxies_of c) c.writer;
}
  where
    stays : (w : Endpoint) → how_of (with_heard (proxies_of c) c.writer count) w ≡ how_of (proxies_of c) w
    stays w =
        how_kept (λ (p : WriterProxy). record p { heard = Some count }) (λ p. refl) (λ p. refl) (proxies_of c) c.writer
        w
heard_stage false c count how is = at_first c how is

pub heard_after_is : (b : Bool) (c : Telling)
    → heard_after (match_at (qos_of c.k.store.cache) c.row c.kept.moment) b (reader_of c).happened ≡ heard_happened b c
heard_after_is true c = ap (λ (m : ℕ). WasHeard (c.row + 1) m ∷ (reader_of c).happened) (sym c.stands.moment)
heard_after_is false c = refl

-- ---- the place begins

abbrev pub started_state : Telling → State → ℕ → State
started_state c s to = record {
  part = at_reader s.part (suc c.i) (with_begun (own_proxies s.part (suc c.i)) c.writer to)
      (own_reader s.part (suc c.i)).happened;
  known = with_tracked s.known c.writer (suc c.i) (record (s.known.tracked c.writer (suc c.i)) { place = to });
}

pub starts_at : (c : Telling) (number : ℕ) (t : Tracked) (rows : List WriterProxy) (happened : List Happening)
    (s : State) → Stage c Waiting t rows happened s
    → StartsAt s c.writer (suc c.i) number (HasBegun c.writer (suc c.i) t.place (max t.place number) ∷ [])
    (started_state c s (max t.place number))
starts_at c number t rows happened s g = record {
  waits = ap (λ (xs : List WriterProxy). how_of xs c.writer) (rows_are c Waiting t rows happened s g) ∙ g.how_is;
  place = t.place;
  at = ap (λ (xs : List WriterProxy). place_of xs c.writer) (rows_are c Waiting t rows happened s g) ∙ g.at;
  moves_are = refl;
  after = refl;
}

-- how the reader stands to another writer stays
begun_elsewhere : (rows : List WriterProxy) (v : Endpoint) (to : ℕ) (w : Endpoint) → (w ≡ v → ⊥)
    → how_of (with_begun rows v to) w ≡ how_of rows w
begun_elsewhere rows v to w apart =
    ⊎_elim (λ e. ap (λ (o : Option WriterProxy). option_map_or (λ (p : WriterProxy). p.how) o Away) e)
    (λ x. absurd (apart x.0))
    (row-cases (λ (p : WriterProxy). p.writer) (λ (p : WriterProxy). record p { place = to; how = Begun }) (λ p. refl)
    rows v w)

pub started : (c : Telling) (to : ℕ) (how : Attachment) (t : Tracked) (rows : List WriterProxy)
    (happened : List Happening) (s : State) → is_attached how ≡ true → Stage c how t rows happened s
    → Stage c Begun (record t { place = to }) (with_begun rows c.writer to) happened (started_state c s to)
started c to how t rows happened s here g = record {
  part =
      ap (λ (xs : List WriterProxy). at_reader s.part (suc c.i) (with_begun xs c.writer to)
      (own_reader s.part (suc c.i)).happened) (rows_are c how t rows happened s g)
      ∙ (ap (λ (r : Reader). at_reader s.part (suc c.i) (with_begun rows c.writer to) r.happened)
      (reader_is c how t rows happened s g)
      ∙ put_again c how t rows happened s g (with_begun rows c.writer to) happened);
  counts = g.counts;
  here =
      tracked_here s.known c.writer (suc c.i) (record (s.known.tracked c.writer (suc c.i)) { place = to })
      ∙ ap (λ (x : Tracked). record x { place = to }) g.here;
  others = λ w n apart.
      tracked_elsewhere s.known c.writer (suc c.i) (record (s.known.tracked c.writer (suc c.i)) { place = to }) w n apart
      ∙ g.others w n apart;
  writers =
      writers_kept (λ (p : WriterProxy). record p { place = to; how = Begun }) (λ p. refl) rows c.writer ∙ g.writers;
  at = begun-hits rows c.writer t.place to g.at;
  how_is = how_begun rows c.writer t.place to g.at;
  places = λ w apart.
      ⊎_elim (λ e. e) (λ x. absurd (apart x.0)) (begun-cases rows c.writer t.place to w g.at) ∙ g.places w apart;
  hows = λ w apart. begun_elsewhere rows c.writer to w apart ∙ g.hows w apart;
  matched = as_many (attached_count (with_begun rows c.writer to)) (attached_count rows) counted ∙ g.matched;
}
  where
    as_many : (m n : ℕ) → m + 1 ≡ n + 1 → m ≡ n
    as_many m n h = omega (arith, h)

    counted : attached_count (with_begun rows c.writer to) + 1 ≡ attached_count rows + 1
    counted =
        ap (λ (b : Bool). attached_count (with_begun rows c.writer to) + one_if b)
        (sym (ap (λ (a : Attachment). is_attached a) g.how_is ∙ here))
        ∙ count_set (λ (p : WriterProxy). record p { place = to; how = Begun }) true (λ p. refl) rows c.writer c.row
        (stands_first c rows (g.writers ∙ (stood c).writers_are))

-- ---- the place goes on

abbrev pub gone_state : Telling → State → ℕ → Tracked → List Happening → State
gone_state c s to new after = record {
  part = at_reader s.part (suc c.i) (with_place (own_proxies s.part (suc c.i)) c.writer to) after;
  known = with_tracked s.known c.writer (suc c.i) new;
}

-- the moves of the place alone
abbrev pub place_moves : Telling → ℕ → ℕ → List PassedRun → List Move
place_moves c from to passed = if nat_lt from to then Place c.writer (suc c.i) to passed ∷ [] else []

pub goes_by : {Way : Match → List Happening → ℕ → List PassedRun → Tracked → List Happening → Type 0}
    → (c : Telling) (t : Tracked) (rows : List WriterProxy) (happened : List Happening) (s : State)
    → Stage c Begun t rows happened s → (to : ℕ) (passed : List PassedRun) (new : Tracked) (after : List Happening)
    → Way (match_at (qos_of c.k.store.cache) c.row c.kept.moment) happened to passed new after
    → GoesBy Way s c.writer (suc c.i) (place_moves c t.place to passed) (gone_state c s to new after)
goes_by {Way = Way} c t rows happened s g to passed new after way =
    let is = rows_are c Begun t rows happened s g in
    let first : IsFirstOf (proxied (own_proxies s.part (suc c.i))) c.writer c.row =
    stands_first c (own_proxies s.part (suc c.i))
    (ap (λ (xs : List WriterProxy). proxied xs) is ∙ (g.writers ∙ (stood c).writers_are)) in
    record {
      publication = c.row + 1;
      place = t.place;
      matched = record {
        handle = handle_is (own_proxies s.part (suc c.i)) c.writer c.row first;
        at = ap (λ (xs : List WriterProxy). place_of xs c.writer) is ∙ g.at;
        begun = ap (λ (xs : List WriterProxy). how_of xs c.writer) is ∙ g.how_is;
      };
      to = to;
      passed = passed;
      known = new;
      happened = after;
      advances =
          subst (λ (xs : List Happening). Way (match_of s.part (suc c.i) (c.row + 1)) xs to passed new after)
          (sym (ap (λ (r : Reader). r.happened) (reader_is c Begun t rows happened s g)))
          (subst (λ (m : Match). Way m happened to passed new after) (match_there c Begun t rows happened s g) way);
      moves_are = refl;
      after = refl;
    }

pub gone : (c : Telling) (how : Attachment) (t : Tracked) (rows : List WriterProxy) (happened : List Happening)
    (s : State) → Stage c how t rows happened s → (to : ℕ) (new : Tracked) (after : List Happening) → new.place ≡ to
    → Stage c how new (with_place rows c.writer to) after (gone_state c s to new after)
gone c how t rows happened s g to new after place = record {
  part =
      ap (λ (xs : List WriterProxy). at_reader s.part (suc c.i) (with_place xs c.writer to) after)
      (rows_are c how t rows happened s g)
      ∙ put_again c how t rows happened s g (with_place rows c.writer to) after;
  counts = g.counts;
  here = tracked_here s.known c.writer (suc c.i) new;
  others = λ w n apart. tracked_elsewhere s.known c.writer (suc c.i) new w n apart ∙ g.others w n apart;
  writers = writers_kept (λ (p : WriterProxy). record p { place = to }) (λ p. refl) rows c.writer ∙ g.writers;
  at = place-hits rows c.writer t.place to g.at ∙ ap (λ (p : ℕ). Some p) (sym place);
  how_is = stays c.writer ∙ g.how_is;
  places = λ w apart.
      ⊎_elim (λ e. e) (λ x. absurd (apart x.0)) (place-cases rows c.writer t.place to w g.at) ∙ g.places w apart;
  hows = λ w apart. stays w ∙ g.hows w apart;
  matched = count_kept (λ (p : WriterProxy). record p { place = to }) (λ p. refl) rows c.writer ∙ g.matched;
}
  where
    stays : (w : Endpoint) → how_of (with_place rows c.writer to) w ≡ how_of rows w
    stays w = how_kept (λ (p : WriterProxy). record p { place = to }) (λ p. refl) (λ p. refl) rows c.writer w

-- ---- more is known

pub noted : (c : Telling) (how : Attachment) (t : Tracked) (rows : List WriterProxy) (happened : List Happening)
    (s : State) → Stage c how t rows happened s → (new : Tracked) → new.place ≡ t.place
    → Stage c how new rows happened (record s { known = with_tracked s.known c.writer (suc c.i) new })
noted c how t rows happened s g new place = record {
  part = g.part;
  counts = g.counts;
  here = tracked_here s.known c.writer (suc c.i) new;
  others = λ w n apart. tracked_elsewhere s.known c.writer (suc c.i) new w n apart ∙ g.others w n apart;
  writers = g.writers;
  at = g.at ∙ ap (λ (p : ℕ). Some p) (sym place);
  how_is = g.how_is;
  places = g.places;
  hows = g.hows;
  matched = g.matched;
}
