-- The changes that came at a reader are the first ones of the list of a writer that keeps all.
use Rattle.std.proofs.Common.{◌≡◌, ℕ, Option, ◌+◌, ◌-◌, ◌≤◌, ◌==◌, Bool, true, false, cond, List, [], ◌∷◌, ◌++◌, Some, None, refl, subst, ap, sym, ◌∙◌, arith, length, slice_get, eq-eqb, eqb-true, append_assoc, inl, inr}
use Rattle.std.specs.Prelude.{if◌then◌else◌, nat_lt}
use Rattle.std.specs.Option.{option_map}
use Rattle.std.proofs.lemmas.Option.{same_Some}
use Rattle.dds_base.specs.declared.change.Change.{Change}
use Rattle.dds_base.specs.Kept.{change_at}
use Rattle.dds_base.specs.declared.endpoint.Endpoint.{Endpoint}
use Rattle.dds_base.specs.declared.happening.PassedRun.{PassedRun}
use Rattle.dds_base.specs.declared.qos.ReaderQos.{ReaderQos}
use Rattle.dds_base.specs.Matched.{is_reliable}
use Rattle.dds_base.specs.Places.{WriterGrounds, Match, PlaceWith, coming, AllCome, GoesTo, MayPassOver}
use Rattle.dds_machine.specs.Part.{same_endpoint, WriterProxy, row_of, with_row, place_of, publication_from, publication_among}
use Rattle.dds_protocol.specs.InOrder.{came_from}
use Rattle.dds_machine.proofs.Tables.{same_is}

pub same_self : (a : Endpoint) → same_endpoint a a ≡ true
same_self a =
    ap (λ (b : Bool). cond b (a.number == a.number) false) (eq-eqb a.peer a.peer refl) ∙ eq-eqb a.number a.number refl

-- publication handles

least_step : (c : Bool) (n k : ℕ) (rest : Option ℕ) → cond c (Some n) rest ≡ Some k → (rest ≡ Some k → n + 1 ≤ k)
    → n ≤ k
least_step true n k rest h f = let e = same_Some n k h in omega (arith, e)
least_step false n k rest h f = let g = f h in omega (arith, g)

publication_least : (n k : ℕ) (rows : List WriterProxy) (w : Endpoint) → publication_from n rows w ≡ Some k → n ≤ k
publication_least n k [] w h = cc
publication_least n k (p ∷ ps) w h =
    least_step (same_endpoint p.writer w) n k (publication_from (n + 1) ps w) h
    (λ e. publication_least (n + 1) k ps w e)

same_step : (n k : ℕ) (p : WriterProxy) (ps : List WriterProxy) (v w : Endpoint) (c d : Bool)
    → same_endpoint p.writer v ≡ c → same_endpoint p.writer w ≡ d
    → cond c (Some n) (publication_from (n + 1) ps v) ≡ Some k
    → cond d (Some n) (publication_from (n + 1) ps w) ≡ Some k
    → (publication_from (n + 1) ps v ≡ Some k → publication_from (n + 1) ps w ≡ Some k → v ≡ w) → v ≡ w
same_step n k p ps v w true true e f g h i = sym (same_is p.writer v e) ∙ same_is p.writer w f
same_step n k p ps v w true false e f g h i =
    let a = same_Some n k g in let b = publication_least (n + 1) k ps w h in absurd (omega (arith, a, b))
same_step n k p ps v w false true e f g h i =
    let a = same_Some n k h in let b = publication_least (n + 1) k ps v g in absurd (omega (arith, a, b))
same_step n k p ps v w false false e f g h i = i g h

-- two matched writers of one handle are one
publications_same : (n k : ℕ) (rows : List WriterProxy) (v w : Endpoint) → publication_from n rows v ≡ Some k
    → publication_from n rows w ≡ Some k → v ≡ w
publications_same n k [] v w g h = cc
publications_same n k (p ∷ ps) v w g h =
    same_step n k p ps v w (same_endpoint p.writer v) (same_endpoint p.writer w) refl refl g h
    (λ x y. publications_same (n + 1) k ps v w x y)

kept_step : (change : WriterProxy → WriterProxy) (n : ℕ) (p : WriterProxy) (ps : List WriterProxy) (w v : Endpoint)
    (b : Bool) → (change p).writer ≡ p.writer
    → publication_from (n + 1) (with_row (λ (q : WriterProxy). q.writer) change ps w) v ≡ publication_from (n + 1) ps v
    → publication_from n (cond b (change p ∷ ps) (p ∷ with_row (λ (q : WriterProxy). q.writer) change ps w)) v
    ≡ publication_from n (p ∷ ps) v
kept_step change n p ps w v true kept h =
    ap (λ (e : Endpoint). cond (same_endpoint e v) (Some n) (publication_from (n + 1) ps v)) kept
kept_step change n p ps w v false kept h = ap (λ (x : Option ℕ). cond (same_endpoint p.writer v) (Some n) x) h

publication_from-kept : (change : WriterProxy → WriterProxy) → ((p : WriterProxy) → (change p).writer ≡ p.writer)
    → (n : ℕ) (rows : List WriterProxy) (w v : Endpoint)
    → publication_from n (with_row (λ (q : WriterProxy). q.writer) change rows w) v ≡ publication_from n rows v
publication_from-kept change kept n [] w v = refl
publication_from-kept change kept n (p ∷ ps) w v =
    kept_step change n p ps w v (same_endpoint p.writer w) (kept p) (publication_from-kept change kept (n + 1) ps w v)

pub publication_kept : (change : WriterProxy → WriterProxy) → ((p : WriterProxy) → (change p).writer ≡ p.writer)
    → (rows : List WriterProxy) (w v : Endpoint)
    → publication_among (with_row (λ (q : WriterProxy). q.writer) change rows w) v ≡ publication_among rows v
publication_kept change kept rows w v = publication_from-kept change kept 1 rows w v

handle_step : (n place : ℕ) (p : WriterProxy) (ps : List WriterProxy) (w : Endpoint) (b : Bool)
    → option_map (λ (q : WriterProxy). q.place) (cond b (Some p) (row_of (λ (q : WriterProxy). q.writer) ps w))
    ≡ Some place
    → (place_of ps w ≡ Some place → (k : ℕ) × (publication_from (n + 1) ps w ≡ Some k))
    → (k : ℕ) × (cond b (Some n) (publication_from (n + 1) ps w) ≡ Some k)
handle_step n place p ps w true h f = (n, refl)
handle_step n place p ps w false h f = f h

append_step : (n k : ℕ) (p : WriterProxy) (ps : List WriterProxy) (x : WriterProxy) (w : Endpoint) (b : Bool)
    → (publication_from (n + 1) ps w ≡ Some k → publication_from (n + 1) (ps ++ x ∷ []) w ≡ Some k)
    → cond b (Some n) (publication_from (n + 1) ps w) ≡ Some k
    → cond b (Some n) (publication_from (n + 1) (ps ++ x ∷ []) w) ≡ Some k
append_step n k p ps x w true f h = h
append_step n k p ps x w false f h = f h

-- a row more at the end leaves the handles that there are
pub publication_append : (n k : ℕ) (rows : List WriterProxy) (x : WriterProxy) (w : Endpoint)
    → publication_from n rows w ≡ Some k → publication_from n (rows ++ x ∷ []) w ≡ Some k
publication_append n k [] x w h = cc
publication_append n k (p ∷ ps) x w h =
    append_step n k p ps x w (same_endpoint p.writer w) (λ e. publication_append (n + 1) k ps x w e) h

-- who has a place has a handle
pub publication_there : (n place : ℕ) (rows : List WriterProxy) (w : Endpoint) → place_of rows w ≡ Some place
    → (k : ℕ) × (publication_from n rows w ≡ Some k)
publication_there n place [] w h = cc
publication_there n place (p ∷ ps) w h =
    handle_step n place p ps w (same_endpoint p.writer w) h (λ e. publication_there (n + 1) place ps w e)

-- changes that come

-- what came from a writer are the first ones of these changes, as many as lie before the place
pub record Along (changes : List Change) (publication : ℕ) (at : PlaceWith) : Type 0 where
  pub rest : List Change
  pub first : changes ≡ came_from publication at.happened ++ rest
  pub count : length (came_from publication at.happened) + 1 ≡ at.place

pub along_as : (changes : List Change) (p q : ℕ) (at to : PlaceWith) → Along changes p at
    → came_from q to.happened ≡ came_from p at.happened → to.place ≡ at.place → Along changes q to
along_as changes p q at to a came place =
    let count = a.count in
    let longer = ap (λ (xs : List Change). length xs) came in
    record {
      rest = a.rest;
      first = a.first ∙ ap (λ (xs : List Change). xs ++ a.rest)
          (sym came);
      count = omega (arith, count, longer, place);
    }

length_more : (xs : List Change) (c : Change) → length (xs ++ c ∷ []) ≡ length xs + 1
length_more [] c = refl
length_more (x ∷ xs) c = let h = length_more xs c in omega (arith, h)

at_end : (xs rest : List Change) (c : Change) → slice_get (xs ++ rest) (length xs) ≡ Some c
    → (more : List Change) × (rest ≡ c ∷ more)
at_end [] [] c h = cc
at_end [] (r ∷ rs) c h = (rs, cc)
at_end (x ∷ xs) rest c h = at_end xs rest c h

next_is : (b : Bool) (xs rest : List Change) (n : ℕ) (c : Change) → nat_lt 0 n ≡ b → n ≡ length xs + 1
    → (if b then slice_get (xs ++ rest) (n - 1) else None) ≡ Some c → (more : List Change) × (rest ≡ c ∷ more)
next_is true xs rest n c e is h =
    let at : n - 1 ≡ length xs = omega (arith, is) in
    at_end xs rest c (ap (λ (i : ℕ). slice_get (xs ++ rest) i) (sym at) ∙ h)
next_is false xs rest n c e is h = cc

came_here : (p : ℕ) (c : Change) (xs : List Change) → (if p == p then xs ++ c ∷ [] else xs) ≡ xs ++ c ∷ []
came_here p c xs = ap (λ (b : Bool). if b then xs ++ c ∷ [] else xs) (eq-eqb p p refl)

along_next : (changes : List Change) (match : Match) (old : PlaceWith) (c : Change)
    → Along changes match.publication old
    → change_at changes old.place ≡ Some c
    → Along changes match.publication (record { place = old.place + 1; happened = coming match old c ∷ old.happened })
along_next changes match old c a is =
    let xs = came_from match.publication old.happened in
    let n =
    next_is (nat_lt 0 old.place) xs a.rest old.place c refl (sym a.count)
    (ap (λ (ys : List Change). change_at ys old.place) (sym a.first) ∙ is) in
    let came = came_here match.publication c xs in
    let longer = ap (λ (ys : List Change). length ys) came in
    let more = length_more xs c in
    let count = a.count in
    record {
      rest = n.0;
      first =
          a.first ∙ (ap (λ (ys : List Change). xs ++ ys) n.1
          ∙ (sym (append_assoc xs (c ∷ []) n.0) ∙ ap (λ (ys : List Change). ys ++ n.0) (sym came)));
      count = omega (arith, longer, more, count);
    }

-- what comes may rest on these changes alone
abbrev pub RestsOn : List Change → WriterGrounds → Type 0
RestsOn changes g =
    ((n : ℕ) (c : Change) → g.is_change n c → change_at changes n ≡ Some c) × ((n : ℕ) → g.may_pass n → ⊥)

pub all_along : (changes : List Change) (g : WriterGrounds) (match : Match) (old : PlaceWith) (cs : List Change)
    (new : PlaceWith) → RestsOn changes g → AllCome g match old cs new
    → Along changes match.publication old → Along changes match.publication new
all_along changes g match old [] new f h a = subst (λ (x : PlaceWith). Along changes match.publication x) (sym h) a
all_along changes g match old (c ∷ cs) new f h a =
    all_along changes g match h.0 cs new f h.2
    (subst (λ (x : PlaceWith). Along changes match.publication x) (sym h.1.after)
    (along_next changes match old c a (f.0 old.place c h.1.is_change)))

-- a reliable reader passes over nothing where nothing was dropped
pub passes_none : (g : WriterGrounds) (qos : ReaderQos) (n : ℕ) → is_reliable qos.reliability ≡ true
    → ((k : ℕ) → g.may_pass k → ⊥) → MayPassOver g qos n → ⊥
passes_none g qos n reliable none (inl h) = none n h
passes_none g qos n reliable none (inr h) = let other = h.0 in cc

pub goes_along : (changes : List Change) (g : WriterGrounds) (match : Match) (old : PlaceWith) (passed : List PassedRun)
    (to : ℕ) (new : PlaceWith) → RestsOn changes g → is_reliable match.qos.reliability ≡ true
    → GoesTo g match old passed to new → Along changes match.publication old
    → Along changes match.publication new × (new.place ≡ to)
goes_along changes g match old [] to new f reliable h a = (all_along changes g match old h.0 new f h.1 a, h.2)
goes_along changes g match old (run ∷ runs) to new f reliable h a =
    let ordered = h.3.ordered in
    absurd (passes_none g match.qos run.first reliable f.1
    (h.3.may_pass run.first (omega arith) (omega (arith, ordered))))

-- nothing comes from another writer

other_come : (p q : ℕ) (c : Change) (xs : List Change) (b : Bool) → (q == p) ≡ b → (q ≡ p → ⊥)
    → (if b then xs ++ c ∷ [] else xs) ≡ xs
other_come p q c xs true e h = absurd (h (eqb-true q p e))
other_come p q c xs false e h = refl

others_come : (p : ℕ) (g : WriterGrounds) (match : Match) (old : PlaceWith) (cs : List Change) (new : PlaceWith)
    → (match.publication ≡ p → ⊥) → AllCome g match old cs new
    → came_from p new.happened ≡ came_from p old.happened
others_come p g match old [] new f h = ap (λ (x : PlaceWith). came_from p x.happened) h
others_come p g match old (c ∷ cs) new f h =
    others_come p g match h.0 cs new f h.2
    ∙ (ap (λ (x : PlaceWith). came_from p x.happened) h.1.after
    ∙ other_come p match.publication c (came_from p old.happened) (match.publication == p) refl f)

pub others_go : (p : ℕ) (g : WriterGrounds) (match : Match) (old : PlaceWith) (passed : List PassedRun) (to : ℕ)
    (new : PlaceWith) → (match.publication ≡ p → ⊥) → GoesTo g match old passed to new
    → came_from p new.happened ≡ came_from p old.happened
others_go p g match old [] to new f h = others_come p g match old h.0 new f h.1
others_go p g match old (run ∷ runs) to new f h =
    others_go p g match h.1 runs to new f h.5
    ∙ (ap (λ (x : PlaceWith). came_from p x.happened) h.3.after ∙ others_come p g match old h.2.0 h.0 f h.2.1)

pub different : (rows : List WriterProxy) (v w : Endpoint) (p q : ℕ) → publication_among rows v ≡ Some p
    → publication_among rows w ≡ Some q → (v ≡ w → ⊥) → p ≡ q → ⊥
different rows v w p q g h f e = f (publications_same 1 q rows v w (g ∙ ap (λ (x : ℕ). Some x) e) h)
