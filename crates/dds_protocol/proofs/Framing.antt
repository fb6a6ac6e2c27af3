-- What a step at one of the peer's readers leaves as it was: all other readers, and what that reader knows of other
-- writers.
use Rattle.std.proofs.Common.{◌≡◌, ◌⊎◌, ℕ, ℤ, zero, suc, ◌+◌, ◌≤◌, ◌==◌, ◌&&◌, Bool, true, false, cond, List, [], ◌∷◌, Option, Some, None, refl, ap, sym, ◌∙◌, inl, inr, ⊎_elim, arith, length, get_or, set, eqb-true, eq-eqb}
use Rattle.std.specs.Option.{option_map}
use Rattle.dds_base.specs.declared.happening.Happening.{Happening}
use Rattle.rtps_reader.specs.Tracked.{Tracked}
use Rattle.dds_base.specs.declared.endpoint.Endpoint.{Endpoint}
use Rattle.dds_machine.specs.Numbered.{numbered, with_numbered, HasNumber}
use Rattle.std.proofs.lemmas.Option.{same_Some}
use Rattle.dds_machine.specs.Part.{Part, WriterProxy, ReaderProxy, Reader, Writer, no_reader, no_writer, same_endpoint, own_writer, own_proxies, own_reader, acknowledged_of, with_acknowledged, at_writer, row_of, with_row, place_of, with_place, heard_of, with_heard, publication_from, publication_among, at_reader}
use Rattle.dds_protocol.specs.Protocol.{Known, State, with_tracked}
use Rattle.dds_protocol.proofs.InOrder.{publication_kept, same_self}
use Rattle.dds_machine.proofs.Tables.{numbered-cases, numbered-same, length-with_numbered, same_is, row-cases, row-hits}

-- which writer and reader

pub is_pair : Endpoint → ℕ → Endpoint → ℕ → Bool
is_pair w r v k = same_endpoint w v && (r == k)

both_so : (a b : Bool) → (a && b) ≡ true → (a ≡ true) × (b ≡ true)
both_so true b h = (refl, h)
both_so false b h = cc

pair_is : (w : Endpoint) (r : ℕ) (v : Endpoint) (k : ℕ) → (same_endpoint w v && (r == k)) ≡ true → (w ≡ v) × (r ≡ k)
pair_is w r v k h = let e = both_so (same_endpoint w v) (r == k) h in (same_is w v e.0, eqb-true r k e.1)

pair_self : (w : Endpoint) (r : ℕ) → (same_endpoint w w && (r == r)) ≡ true
pair_self w r = ap (λ (b : Bool). b && (r == r)) (same_self w) ∙ eq-eqb r r refl

-- what the reader knows now of that writer
pub tracked_here : (known : Known) (w : Endpoint) (r : ℕ) (t : Tracked) → (with_tracked known w r t).tracked w r ≡ t
tracked_here known w r t = ap (λ (b : Bool). cond b t (known.tracked w r)) (pair_self w r)

pub tracked_elsewhere : (known : Known) (v : Endpoint) (k : ℕ) (t : Tracked) (w : Endpoint) (r : ℕ)
    → ((w ≡ v) × (r ≡ k) → ⊥) → (with_tracked known v k t).tracked w r ≡ known.tracked w r
tracked_elsewhere known v k t w r f = by (same_endpoint w v && (r == k)) refl
  where
    by : (b : Bool) → (same_endpoint w v && (r == k)) ≡ b → cond (same_endpoint w v && (r == k)) t (known.tracked w r)
        ≡ known.tracked w r
    by true e = absurd (f (pair_is w r v k e))
    by false e = ap (λ (b : Bool). cond b t (known.tracked w r)) e

-- whether it is this writer and this reader
pub pair_or_not : (w : Endpoint) (r : ℕ) (v : Endpoint) (k : ℕ) → ((w ≡ v) × (r ≡ k)) ⊎ ((w ≡ v) × (r ≡ k) → ⊥)
pair_or_not w r v k = by (same_endpoint w v && (r == k)) refl
  where
    by : (b : Bool) → (same_endpoint w v && (r == k)) ≡ b → ((w ≡ v) × (r ≡ k)) ⊎ ((w ≡ v) × (r ≡ k) → ⊥)
    by true e = inl (pair_is w r v k e)
    by false e =
        inr (λ p. let s = pair_self v k in let t = ap (λ (x : Endpoint). same_endpoint x v && (r == k)) p.0 in let u =
        ap (λ (n : ℕ). same_endpoint v v && (n == k)) p.1 in cc)

pub number_or_not : (r k : ℕ) → (r ≡ k) ⊎ (r ≡ k → ⊥)
number_or_not r k = by (r == k) refl
  where
    by : (b : Bool) → (r == k) ≡ b → (r ≡ k) ⊎ (r ≡ k → ⊥)
    by true e = inl (eqb-true r k e)
    by false e = inr (λ p. let s = eq-eqb r k p in cc)

-- lists with an element of a number

pub with_same : {X : Type 0} (xs : List X) (n : ℕ) (d : X) → with_numbered xs n (numbered xs n d) ≡ xs
with_same xs zero d = refl
with_same {X = X} xs (suc i) d = set_same xs i
  where
    set_same : (xs : List X) (i : ℕ) → set xs i (get_or xs i d) ≡ xs
    set_same [] i = refl
    set_same (x ∷ xs) zero = refl
    set_same (x ∷ xs) (suc i) = ap (λ ys. x ∷ ys) (set_same xs i)

pub elsewhere : {X : Type 0} (xs : List X) (n : ℕ) (x : X) (m : ℕ) (d : X) → (m ≡ n → ⊥)
    → numbered (with_numbered xs n x) m d ≡ numbered xs m d
elsewhere xs n x m d f = ⊎_elim (λ e. e) (λ s. absurd (f s.0)) (numbered-cases xs n x m d)

-- a reader of whose matched writers something is found is there
pub has_found : {X : Type 0} (found : List WriterProxy → Option X) → found [] ≡ None → (part : Part) (r : ℕ) (x : X)
    → found (own_proxies part r) ≡ Some x → HasNumber part.rtps.readers r
has_found {X = X} found none part zero x h = cc
has_found {X = X} found none part (suc i) x h = (omega arith, within part.rtps.readers i h)
  where
    within : (xs : List (List WriterProxy)) (i : ℕ) → found (get_or xs i []) ≡ Some x → suc i ≤ length xs
    within [] i h = cc
    within (rows ∷ xs) zero h = omega arith
    within (rows ∷ xs) (suc i) h = let k = within xs i h in omega (arith, k)

-- a reader with a matched writer is there
pub has_reader : (part : Part) (r p : ℕ) (w : Endpoint) → place_of (own_proxies part r) w ≡ Some p
    → HasNumber part.rtps.readers r
has_reader part r p w h = has_found (λ rows. place_of rows w) refl part r p h

-- a row changed to what it was
row_step : {X : Type 0} (change : X → X) (x : X) (xs rest : List X) (row : Option X) (b : Bool)
    → ((y : X) → cond b (Some x) row ≡ Some y → change y ≡ y) → (((y : X) → row ≡ Some y → change y ≡ y) → rest ≡ xs)
    → cond b (change x ∷ xs) (x ∷ rest) ≡ x ∷ xs
row_step {X = X} change x xs rest row true same f = ap (λ (y : X). y ∷ xs) (same x refl)
row_step {X = X} change x xs rest row false same f = ap (λ (ys : List X). x ∷ ys) (f same)

pub row_same : {X : Type 0} (name : X → Endpoint) (change : X → X) (rows : List X) (w : Endpoint)
    → ((x : X) → row_of name rows w ≡ Some x → change x ≡ x) → with_row name change rows w ≡ rows
row_same name change [] w same = refl
row_same name change (x ∷ xs) w same =
    row_step change x xs (with_row name change xs w) (row_of name xs w) (same_endpoint (name x) w) same
    (λ f. row_same name change xs w f)

placed_as : (x : WriterProxy) (p : ℕ) → Some x.place ≡ Some p → record x { place = p } ≡ x
placed_as x p e = ap (λ (n : ℕ). record x { place = n }) (sym (same_Some x.place p e))

pub place_same : (rows : List WriterProxy) (w : Endpoint) (p : ℕ) → place_of rows w ≡ Some p
    → with_place rows w p ≡ rows
place_same rows w p h =
    row_same (λ (q : WriterProxy). q.writer) (λ (q : WriterProxy). record q { place = p }) rows w
    (λ x is. placed_as x p (sym (ap (λ (o : Option WriterProxy). option_map (λ (q : WriterProxy). q.place) o) is) ∙ h))

acknowledged_as : (x : ReaderProxy) (p : ℕ) → Some x.acknowledged ≡ Some p → record x { acknowledged = p } ≡ x
acknowledged_as x p e = ap (λ (n : ℕ). record x { acknowledged = n }) (sym (same_Some x.acknowledged p e))

pub acknowledged_same : (rows : List ReaderProxy) (r : Endpoint) (p : ℕ) → acknowledged_of rows r ≡ Some p
    → with_acknowledged rows r p ≡ rows
acknowledged_same rows r p h =
    row_same (λ (q : ReaderProxy). q.reader) (λ (q : ReaderProxy). record q { acknowledged = p }) rows r
    (λ x is. acknowledged_as x p
    (sym (ap (λ (o : Option ReaderProxy). option_map (λ (q : ReaderProxy). q.acknowledged) o) is) ∙ h))

-- an acknowledgement that was made changes nothing
pub at_writer_same : (part : Part) (w : ℕ) (r : Endpoint) (p : ℕ)
    → acknowledged_of (own_writer part w).readers r ≡ Some p
    → at_writer part w (record (own_writer part w) { readers = with_acknowledged (own_writer part w).readers r p })
    ≡ part
at_writer_same part w r p h =
    ap (λ (rows : List ReaderProxy). at_writer part w (record (own_writer part w) { readers = rows }))
    (acknowledged_same (own_writer part w).readers r p h)
    ∙ ap (λ (all : List Writer). record part { rtps = record part.rtps { writers = all } })
    (with_same part.rtps.writers w no_writer)

-- a place changed to what it was, where nothing happened, changes nothing
pub at_reader_same : (part : Part) (r : ℕ) (w : Endpoint) (p : ℕ) → place_of (own_proxies part r) w ≡ Some p
    → at_reader part r (with_place (own_proxies part r) w p) (own_reader part r).happened ≡ part
at_reader_same part r w p h =
    ap (λ (rows : List WriterProxy). at_reader part r rows (own_reader part r).happened)
    (place_same (own_proxies part r) w p h)
    ∙ (ap (λ (all : List (List WriterProxy)). record part {
      rtps = record part.rtps { readers = all };
      dds =
          record part.dds {
            readers = with_numbered part.dds.readers r
                (record (own_reader part r) { happened = (own_reader part r).happened });
          };
    }) (with_same part.rtps.readers r [])
    ∙ ap (λ (all : List Reader). record part { dds = record part.dds { readers = all } })
    (with_same part.dds.readers r no_reader))

-- ---- a step at one reader, as to one writer

pub record Frames (old : State) (v : Endpoint) (k : ℕ) (new : State) : Type 0 where
  -- time stands still, and readers stay as many
  pub moment : new.part.dds.moment ≡ old.part.dds.moment
  pub count : length new.part.rtps.readers ≡ length old.part.rtps.readers
  pub writers : new.part.rtps.writers ≡ old.part.rtps.writers
  -- other readers are as they were
  pub proxies : (r : ℕ) → (r ≡ k → ⊥) → own_proxies new.part r ≡ own_proxies old.part r
  pub readers : (r : ℕ) → (r ≡ k → ⊥) → own_reader new.part r ≡ own_reader old.part r
  -- what is known of other writers, or at other readers, is as it was
  pub tracked : (w : Endpoint) (r : ℕ) → ((w ≡ v) × (r ≡ k) → ⊥) → new.known.tracked w r ≡ old.known.tracked w r
  pub places : (w : Endpoint) → (w ≡ v → ⊥) → place_of (own_proxies new.part k) w ≡ place_of (own_proxies old.part k) w
  pub heard : (w : Endpoint) → (w ≡ v → ⊥) → heard_of (own_proxies new.part k) w ≡ heard_of (own_proxies old.part k) w
  -- handles never change
  pub handles : (w : Endpoint) → publication_among (own_proxies new.part k) w
      ≡ publication_among (own_proxies old.part k) w

pub frames_none : (s : State) (v : Endpoint) (k : ℕ) → Frames s v k s
frames_none s v k = record {
  moment = refl;
  count = refl;
  writers = refl;
  proxies = λ r f. refl;
  readers = λ r f. refl;
  tracked = λ w r f. refl;
  places = λ w f. refl;
  heard = λ w f. refl;
  handles = λ w. refl;
}

pub frames_on : (a b c : State) (v : Endpoint) (k : ℕ) → Frames a v k b → Frames b v k c → Frames a v k c
frames_on a b c v k f g = record {
  moment = g.moment ∙ f.moment;
  count = g.count ∙ f.count;
  writers = g.writers ∙ f.writers;
  proxies = λ r n. g.proxies r n ∙ f.proxies r n;
  readers = λ r n. g.readers r n ∙ f.readers r n;
  tracked = λ w r n. g.tracked w r n ∙ f.tracked w r n;
  places = λ w n. g.places w n ∙ f.places w n;
  heard = λ w n. g.heard w n ∙ f.heard w n;
  handles = λ w. g.handles w ∙ f.handles w;
}

heard_elsewhere : (change : WriterProxy → WriterProxy) → ((p : WriterProxy) → (change p).writer ≡ p.writer)
    → (rows : List WriterProxy) (v w : Endpoint) → (w ≡ v → ⊥)
    → heard_of (with_row (λ (p : WriterProxy). p.writer) change rows v) w ≡ heard_of rows w
heard_elsewhere change kept rows v w f =
    ⊎_elim (λ e. ap (λ (o : Option WriterProxy). option_map (λ (p : WriterProxy). p.heard) o) e) (λ s. absurd (f s.0))
    (row-cases (λ (p : WriterProxy). p.writer) change kept rows v w)

place_elsewhere : (change : WriterProxy → WriterProxy) → ((p : WriterProxy) → (change p).writer ≡ p.writer)
    → (rows : List WriterProxy) (v w : Endpoint) → (w ≡ v → ⊥)
    → place_of (with_row (λ (p : WriterProxy). p.writer) change rows v) w ≡ place_of rows w
place_elsewhere change kept rows v w f =
    ⊎_elim (λ e. ap (λ (o : Option WriterProxy). option_map (λ (p : WriterProxy). p.place) o) e) (λ s. absurd (f s.0))
    (row-cases (λ (p : WriterProxy). p.writer) change kept rows v w)

-- a reader whose row of a writer was changed, to whose list of what happened something was added, and who knows more
pub frames_at : (old : State) (v : Endpoint) (k : ℕ) (change : WriterProxy → WriterProxy)
    → ((p : WriterProxy) → (change p).writer ≡ p.writer) → (happened : List Happening) (known : Known)
    → HasNumber old.part.rtps.readers k
    → ((w : Endpoint) (r : ℕ) → ((w ≡ v) × (r ≡ k) → ⊥) → known.tracked w r ≡ old.known.tracked w r)
    → Frames old v k
    (record {
      part = at_reader old.part k
          (with_row (λ (p : WriterProxy). p.writer) change (own_proxies old.part k) v) happened;
      known = known;
    })
frames_at old v k change kept happened known there same =
    let rows = with_row (λ (p : WriterProxy). p.writer) change (own_proxies old.part k) v in
    let here : numbered (with_numbered old.part.rtps.readers k rows) k [] ≡ rows =
    numbered-same old.part.rtps.readers k rows [] there in
    record {
      moment = refl;
      count = length-with_numbered old.part.rtps.readers k rows;
      writers = refl;
      proxies = λ r f. elsewhere old.part.rtps.readers k rows r [] f;
      readers =
          λ r f. elsewhere old.part.dds.readers k
          (record (own_reader old.part k) { happened = happened }) r no_reader f;
      tracked = same;
      places =
          λ w f. ap (λ (xs : List WriterProxy). place_of xs w) here
          ∙ place_elsewhere change kept (own_proxies old.part k) v w f;
      heard =
          λ w f. ap (λ (xs : List WriterProxy). heard_of xs w) here
          ∙ heard_elsewhere change kept (own_proxies old.part k) v w f;
      handles =
          λ w. ap (λ (xs : List WriterProxy). publication_among xs w) here
          ∙ publication_kept change kept (own_proxies old.part k) v w;
    }

-- a place changed says nothing of what was heard
heard_placed : (to : ℕ) (o : Option WriterProxy)
    → option_map (λ (p : WriterProxy). p.heard) (option_map (λ (p : WriterProxy). record p { place = to }) o)
    ≡ option_map (λ (p : WriterProxy). p.heard) o
heard_placed to None = refl
heard_placed to (Some p) = refl

pub heard_still : (rows : List WriterProxy) (w : Endpoint) (to : ℕ)
    → heard_of (with_place rows w to) w ≡ heard_of rows w
heard_still rows w to =
    ap (λ (o : Option WriterProxy). option_map (λ (p : WriterProxy). p.heard) o)
    (row-hits (λ (p : WriterProxy). p.writer) (λ (p : WriterProxy). record p { place = to }) (λ p. refl) rows w)
    ∙ heard_placed to (row_of (λ (p : WriterProxy). p.writer) rows w)

heard_now : (count : ℤ) (o : Option WriterProxy) (c : ℤ)
    → option_map (λ (p : WriterProxy). p.heard) (option_map (λ (p : WriterProxy). record p { heard = Some count }) o)
    ≡ Some (Some c) → count ≡ c
heard_now count None c h = cc
heard_now count (Some p) c h = cc

pub heard_here : (rows : List WriterProxy) (w : Endpoint) (count c : ℤ)
    → heard_of (with_heard rows w count) w ≡ Some (Some c) → count ≡ c
heard_here rows w count c h =
    heard_now count (row_of (λ (p : WriterProxy). p.writer) rows w) c
    (sym (ap (λ (o : Option WriterProxy). option_map (λ (p : WriterProxy). p.heard) o)
    (row-hits (λ (p : WriterProxy). p.writer) (λ (p : WriterProxy). record p { heard = Some count })
    (λ p. refl) rows w)) ∙ h)

-- a matched writer was heard last by some count, or never
heard_step : (n k : ℕ) (p : WriterProxy) (rest : Option ℕ) (row : Option WriterProxy) (b : Bool)
    → cond b (Some n) rest ≡ Some k
    → (rest ≡ Some k → (o : Option ℤ) × (option_map (λ (q : WriterProxy). q.heard) row ≡ Some o))
    → (o : Option ℤ) × (option_map (λ (q : WriterProxy). q.heard) (cond b (Some p) row) ≡ Some o)
heard_step n k p rest row true h f = (p.heard, refl)
heard_step n k p rest row false h f = f h

pub heard_there : (n k : ℕ) (rows : List WriterProxy) (w : Endpoint) → publication_from n rows w ≡ Some k
    → (o : Option ℤ) × (heard_of rows w ≡ Some o)
heard_there n k [] w h = cc
heard_there n k (p ∷ ps) w h =
    heard_step n k p (publication_from (n + 1) ps w) (row_of (λ (q : WriterProxy). q.writer) ps w)
    (same_endpoint p.writer w) h (λ e. heard_there (n + 1) k ps w e)

-- a reader with a handle of a writer is there
pub has_handle : (part : Part) (r p : ℕ) (w : Endpoint) → publication_among (own_proxies part r) w ≡ Some p
    → HasNumber part.rtps.readers r
has_handle part r p w h = has_found (λ rows. publication_among rows w) refl part r p h

-- what is known of one writer at one reader was changed alone
pub frames_known : (old : State) (v : Endpoint) (k : ℕ) (t : Tracked)
    → Frames old v k (record old { known = with_tracked old.known v k t })
frames_known old v k t = record {
  moment = refl;
  count = refl;
  writers = refl;
  proxies = λ r f. refl;
  readers = λ r f. refl;
  tracked = λ w r apart. tracked_elsewhere old.known v k t w r apart;
  places = λ w f. refl;
  heard = λ w f. refl;
  handles = λ w. refl;
}
