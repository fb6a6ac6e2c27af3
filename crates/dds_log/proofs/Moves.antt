-- Each step keeps the rule of a log.
use Rattle.std.proofs.Common.{◌≡◌, ◌≢◌, ◌⊎◌, ℕ, zero, suc, ◌+◌, ◌≤◌, ◌<◌, ◌%◌, ◌^◌, ◌==◌, eqb, eq-eqb, ne_eqb, Bool, List, [], ◌∷◌, ◌++◌, set, length, length-set, length-append, append-nil, append_assoc, true, false, true≢false, refl, sym, ap, ◌∙◌, subst, inl, inr, ⊎_elim, arith, rules}
use Rattle.std.specs.Prelude.{slice_index, slice_set, Option, Some, None, if◌then◌else◌}
use mathlib.Core.Option.{some, some-ne-none, some-injective}
use mathlib.Core.Logic.{dite}
use native.Mathlib.Decide.{ℕ_discrete}
use prog.Atomic.{either}
use lib.ListN.{get_elem?}
use Rattle.atomic_table.specs.Table.{Me, Step, State, keeps, Allows, Splits, Joins, opening}
use Rattle.atomic_table.proofs.Lists.{at_set}
use Rattle.dds_log.specs.declared.rule.View.{View}
use Rattle.dds_log.specs.Logs.{BeginsWith, entries_of, keeper_of, told, emptied, handed, one_less, newcomer, joined, nobody, shown, written_out, read_in, either_seat, held_by, Fits, IsLogged, Looks, Counts, Settles, Compares}

-- ---- choices

chosen : (n old x y : ℕ) (F : ℕ → Type 0) → (n ≡ old → F x) → (n ≢ old → F y) → F (either (eqb n old) x y)
chosen n old x y F hit miss =
    dite (ℕ_discrete n old) (λ e. subst (λ b. F (either b x y)) (sym (eq-eqb n old e)) (hit e))
    (λ ne. subst (λ b. F (either b x y)) (sym (ne_eqb n old ne)) (miss ne))

-- the number of where something is at home, after all of one was moved to another
abbrev moved : ℕ → ℕ → ℕ → ℕ
moved from to h = either (eqb h from) to h

moved_off : (from to h : ℕ) → h ≢ from → moved from to h ≡ h
moved_off from to h ne = chosen h from to h (λ x. x ≡ h) (λ e. absurd (ne e)) (λ _. refl)

moved_on : (from to h : ℕ) → h ≡ from → moved from to h ≡ to
moved_on from to h e = chosen h from to h (λ x. x ≡ to) (λ _. refl) (λ ne. absurd (ne e))

-- where it is not moved to, it was
was : (from to h x : ℕ) → to ≢ x → moved from to h ≡ x → (h ≡ x) × (h ≢ from)
was from to h x apart = chosen h from to h (λ y. y ≡ x → (h ≡ x) × (h ≢ from)) (λ _ e. absurd (apart e)) (λ ne e. (e, ne))

off : false ≡ true → ⊥
off e = true≢false (sym e)

none_some : (n : ℕ) → (let o : Option ℕ = None in o) ≡ Some n → ⊥
none_some n e = absurd cc

-- ---- lists

module _ {A : Type 0} where
  at_snoc_here : (l : List A) (a b : A) (j : ℕ) → get_elem? (l ++ a ∷ []) j ≡ some b → (get_elem? l j ≡ some b) ⊎ ((j ≡ length l) × (a ≡ b))
  at_snoc_here [] a b zero e = inr (refl, some-injective a b e)
  at_snoc_here [] a b (suc j) e = absurd (some-ne-none b (sym e))
  at_snoc_here (x ∷ xs) a b zero e = inl e
  at_snoc_here (x ∷ xs) a b (suc j) e = ⊎_elim (λ t. inl t) (λ t. inr (ap suc t.0, t.1)) (at_snoc_here xs a b j e)

  at_below : (l : List A) (i : ℕ) (a : A) → get_elem? l i ≡ some a → i < length l
  at_below [] i a e = absurd (some-ne-none a (sym e))
  at_below (x ∷ xs) zero a e = omega arith
  at_below (x ∷ xs) (suc i) a e = let p = at_below xs i a e in omega arith

  here_at : (l : List A) (i : ℕ) → i < length l → (a : A) × (get_elem? l i ≡ some a)
  here_at [] i h = absurd (omega arith)
  here_at (x ∷ xs) zero h = (x, refl)
  here_at (x ∷ xs) (suc i) h = here_at xs i (omega arith)

  all_set : (F : ℕ → A → Type 0) (l : List A) (by : ℕ) (w : A) → ((j : ℕ) (u : A) → j ≢ by → get_elem? l j ≡ some u → F j u) → F by w → (j : ℕ) (u : A) → get_elem? (set l by w) j ≡ some u → F j u
  all_set F l by w others mine j u e =
      ⊎_elim
      (λ (x : (j ≡ by) × (w ≡ u)). subst (λ (y : ℕ × A). F y.0 y.1) (λ i. (sym x.0 i, x.1 i)) mine)
      (λ (x : (j ≢ by) × (get_elem? l j ≡ some u)). others j u x.0 x.1)
      (at_set l by j w u e)

  all_snoc : (F : ℕ → A → Type 0) (l : List A) (w : A) → ((j : ℕ) (u : A) → get_elem? l j ≡ some u → F j u) → F (length l) w → (j : ℕ) (u : A) → get_elem? (l ++ w ∷ []) j ≡ some u → F j u
  all_snoc F l w others mine j u e =
      ⊎_elim
      (λ (x : get_elem? l j ≡ some u). others j u x)
      (λ (x : (j ≡ length l) × (w ≡ u)). subst (λ (y : ℕ × A). F y.0 y.1) (λ i. (sym x.0 i, x.1 i)) mine)
      (at_snoc_here l w u j e)

  -- one is set, and one more comes behind
  all_set_snoc : (F : ℕ → A → Type 0) (l : List A) (by : ℕ) (x w : A) → ((j : ℕ) (u : A) → j ≢ by → get_elem? l j ≡ some u → F j u) → F by x → F (length l) w → (j : ℕ) (u : A) → get_elem? (set l by x ++ w ∷ []) j ≡ some u → F j u
  all_set_snoc F l by x w others mine last =
      all_snoc F (set l by x) w (all_set F l by x others mine) (subst (λ (n : ℕ). F n w) (sym (length-set l by x)) last)

module _ {E : Type 0} where
  held_set : (views : List (View E)) (id : ℕ) (v w : View E) → get_elem? views id ≡ some v → held_by (set views id w) + length v.list ≡ held_by views + length w.list
  held_set [] id v w e = absurd (some-ne-none v (sym e))
  held_set (x ∷ xs) zero v w e = let same = ap (λ (y : View E). length y.list) (some-injective x v e) in omega arith
  held_set (x ∷ xs) (suc id) v w e = let p = held_set xs id v w e in omega arith

  held_snoc : (views : List (View E)) (w : View E) → held_by (views ++ w ∷ []) ≡ held_by views + length w.list
  held_snoc [] w = omega arith
  held_snoc (x ∷ xs) w = let p = held_snoc xs w in omega arith

  held_one : (views : List (View E)) (id : ℕ) (v : View E) → get_elem? views id ≡ some v → length v.list ≤ held_by views
  held_one [] id v e = absurd (some-ne-none v (sym e))
  held_one (x ∷ xs) zero v e = let same = ap (λ (y : View E). length y.list) (some-injective x v e) in omega arith
  held_one (x ∷ xs) (suc id) v e = let p = held_one xs id v e in omega arith

  held_two : (views : List (View E)) (i j : ℕ) (v w : View E) → i ≢ j → get_elem? views i ≡ some v → get_elem? views j ≡ some w → length v.list + length w.list ≤ held_by views
  held_two [] i j v w apart e f = absurd (some-ne-none v (sym e))
  held_two (x ∷ xs) zero zero v w apart e f = absurd (apart refl)
  held_two (x ∷ xs) zero (suc j) v w apart e f =
      let same = ap (λ (y : View E). length y.list) (some-injective x v e) in
      let p = held_one xs j w f in omega arith
  held_two (x ∷ xs) (suc i) zero v w apart e f =
      let same = ap (λ (y : View E). length y.list) (some-injective x w f) in
      let p = held_one xs i v e in omega arith
  held_two (x ∷ xs) (suc i) (suc j) v w apart e f =
      let p = held_two xs i j v w (λ s. apart (ap suc s)) e f in omega arith

  empty : (es : List E) → length es ≡ 0 → es ≡ []
  empty [] e = refl
  empty (x ∷ xs) e = absurd (omega arith)

module _ {E : Type 0} (seat_of : E → ℕ) where
  abbrev of : ℕ → List E → List E
  of = entries_of seat_of

  if_append : (b : Bool) (e : E) (xs ys : List E) → (if b then e ∷ (xs ++ ys) else (xs ++ ys)) ≡ (if b then e ∷ xs else xs) ++ ys
  if_append true e xs ys = refl
  if_append false e xs ys = refl

  pub of_append : (s : ℕ) (xs ys : List E) → of s (xs ++ ys) ≡ of s xs ++ of s ys
  of_append s [] ys = refl
  of_append s (x ∷ xs) ys =
      ap (λ es. if seat_of x == s then x ∷ es else es) (of_append s xs ys) ∙ if_append (seat_of x == s) x (of s xs) (of s ys)

  skips : (b : Bool) (e : E) → b ≡ false → (if b then e ∷ [] else (let none : List E = [] in none)) ≡ []
  skips true e h = absurd (true≢false h)
  skips false e h = refl

  not_of : (s : ℕ) (e : E) → seat_of e ≢ s → of s (e ∷ []) ≡ []
  not_of s e ne = skips (seat_of e == s) e (ne_eqb (seat_of e) s ne)

  both_none : (s : ℕ) (xs ys : List E) → of s xs ≡ [] → of s ys ≡ [] → of s (xs ++ ys) ≡ []
  both_none s xs ys p q = of_append s xs ys ∙ ap (λ es. es ++ of s ys) p ∙ q

  none_then : (s : ℕ) (xs ys : List E) → of s xs ≡ [] → of s (xs ++ ys) ≡ of s ys
  none_then s xs ys p = of_append s xs ys ∙ ap (λ es. es ++ of s ys) p

  then_none : (s : ℕ) (xs ys : List E) → of s ys ≡ [] → of s (xs ++ ys) ≡ of s xs
  then_none s xs ys p = of_append s xs ys ∙ ap (λ es. of s xs ++ es) p ∙ append-nil (of s xs)

  -- ---- what was handed out

  -- nothing was handed out
  nothing_yet : (log : List E) → BeginsWith log (let none : List E = [] in none)
  nothing_yet log = (log, refl)

  -- one more entry stands behind
  behind : (log first : List E) (e : E) → BeginsWith log first → BeginsWith (log ++ e ∷ []) first
  behind log first e h =
      (h.0 ++ e ∷ [], ap (λ (es : List E). es ++ e ∷ []) h.1 ∙ append_assoc first h.0 (e ∷ []))

  -- ---- the opening

  first_fits : Fits seat_of [] 0 (λ _. 0) 0 (keeper_of 1 [])
  first_fits = record {
    seen = omega arith;
    keeps = λ _. record { only = refl; all = refl; counted = refl; fresh = λ s _. refl };
    here = λ s e. absurd (omega (arith, e));
    elsewhere = λ s _. refl;
    own = λ s e. absurd (none_some s e);
    wrote = nothing_yet [];
  }

  pub begins : IsLogged seat_of (opening (0 ∷ []) [] (keeper_of 1 []))
  begins = record {
    log = [];
    keeper = 0;
    home = λ _. 0;
    word = refl;
    each = refl;
    none = λ s _. refl;
    within = λ s. omega arith;
    fit = one;
  }
    where
      one : (id : ℕ) (v : View E) → get_elem? (keeper_of 1 [] ∷ []) id ≡ some v → Fits seat_of [] 0 (λ _. 0) id v
      one zero v e = subst (λ (u : View E). Fits seat_of [] 0 (λ _. 0) 0 u) (some-injective _ _ e) first_fits
      one (suc id) v e = absurd (some-ne-none v (sym e))

  -- ---- looks

  looked : (log : List E) (keeper : ℕ) (home : ℕ → ℕ) (id : ℕ) (v : View E) (n : ℕ) → n ≡ length log
      → Fits seat_of log keeper home id v → Fits seat_of log keeper home id (record v { at = n })
  looked log keeper home id v n is f = record {
    seen = omega (arith, is);
    keeps = λ k. let own = f.keeps k in record { only = own.only; all = own.all; counted = own.counted; fresh = own.fresh };
    here = f.here;
    elsewhere = f.elsewhere;
    own = f.own;
    wrote = f.wrote;
  }

  seen_more : (id : ℕ) (v : View E) (s : State ℕ (View E)) → IsLogged seat_of s → get_elem? s.views id ≡ some v
      → IsLogged seat_of (record { words = slice_set s.words 0 (slice_index s.words 0); homes = s.homes; views = set s.views id (record v { at = slice_index s.words 0 }) })
  seen_more id v s h at =
      let found = slice_index s.words 0 in
      let is : found ≡ length h.log = ap (λ ws. slice_index ws 0) h.word in
      let w : View E = record v { at = found } in record {
        log = h.log;
        keeper = h.keeper;
        home = h.home;
        word = λ i. slice_set (h.word i) 0 (slice_index (h.word i) 0);
        each = let p = held_set s.views id v w at in omega (arith, h.each, p);
        none = h.none;
        within = λ n. omega (arith, h.within n, length-set s.views id w);
        fit =
            all_set (Fits seat_of h.log h.keeper h.home) s.views id w (λ j u _ e. h.fit j u e)
            (looked h.log h.keeper h.home id v found is (h.fit id v at));
      }

  -- who holds no slot and looks finds the word, and keeps the rule: whatever that tells of the number found
  sees : (slots id : ℕ) (me : Me ℕ (View E)) (tells : Me ℕ (View E) → ℕ → Me ℕ (View E) → Type 0) → me.1 ≡ []
      → ((v : View E) (s : State ℕ (View E)) (h : IsLogged seat_of s) → get_elem? s.views id ≡ some v
      → (found : ℕ) → found ≡ length h.log → tells (v, []) found (record v { at = found }, []))
      → Allows (IsLogged seat_of) slots id me 0 (λ n. n) (tells me)
  sees slots id me tells empty told_by = subst allows (sym empty) bare
    where
      allows : List (ℕ × ℕ) → Type 0
      allows held = Allows (IsLogged seat_of) slots id (me.0, held) 0 (λ n. n) (tells (me.0, held))

      bare : allows []
      bare s h homes at fits =
          let found = slice_index s.words 0 in (
            record me.0 { at = found },
            keeps,
            tt,
            seen_more id me.0 s h at,
            told_by me.0 s h at found (ap (λ ws. slice_index ws 0) h.word),
          )

  pub looks : (slots id : ℕ) (me : Me ℕ (View E)) (st : Step ℕ) → me.1 ≡ []
      → Allows (IsLogged seat_of) slots id me 0 (λ n. n) (Looks st me)
  looks slots id me st empty =
      sees slots id me (Looks st) empty
      (λ v s h at found is. let mine = h.fit id v at in
      (omega (arith, is, mine.seen), (λ k. is ∙ sym (mine.keeps k).counted), refl))

  -- who has as many entries as there are has all of each seat
  has_all : (id : ℕ) (v : View E) (s : State ℕ (View E)) (h : IsLogged seat_of s) → get_elem? s.views id ≡ some v
      → length v.list ≡ length h.log → (seat : ℕ) → of seat v.list ≡ of seat h.log
  has_all id v s h at long seat =
      let mine = h.fit id v at in
      dite (ℕ_discrete (h.home seat) (id + 1)) (λ here. mine.here seat here) (λ away. none_of seat away (h.home seat) refl)
    where
      none_of : (seat : ℕ) → h.home seat ≢ id + 1 → (at_home : ℕ) → h.home seat ≡ at_home → of seat v.list ≡ of seat h.log
      none_of seat away zero e = (h.fit id v at).elsewhere seat away ∙ sym (h.none seat e)
      none_of seat away (suc j) e =
          let other = here_at s.views j (omega (arith, h.within seat, e)) in
          let theirs = h.fit j other.0 other.1 in
          let apart : id ≢ j = λ same. away (e ∙ omega (arith, same)) in
          let few = held_two s.views id j v other.0 apart at other.1 in
          let nothing : other.0.list ≡ [] = empty other.0.list (omega (arith, few, long, h.each)) in
          (h.fit id v at).elsewhere seat away ∙ ap (λ es. of seat es) (sym nothing) ∙ theirs.here seat (omega (arith, e))

  pub settles : (slots id : ℕ) (me : Me ℕ (View E)) (st : Step ℕ) → me.1 ≡ []
      → Allows (IsLogged seat_of) slots id me 0 (λ n. n) (Settles seat_of st me)
  settles slots id me st empty =
      sees slots id me (Settles seat_of st) empty
      (λ v s h at found is. let mine = h.fit id v at in (
        (λ k. is ∙ sym (mine.keeps k).counted),
        (λ k long seat.
            let all = (mine.keeps k).all in
            has_all id v s h at (long ∙ ap (λ (es : List E). length es) all) seat ∙ ap (λ (es : List E). of seat es) (sym all)),
        refl,
      ))

  -- ---- a note

  -- a newcomer that is told what was handed out
  shown_new : (log : List E) (keeper : ℕ) (home : ℕ → ℕ) (id : ℕ) (v : View E) (first : List E) → v.at ≤ length log
      → ((s : ℕ) → home s ≢ id + 1) → BeginsWith log first
      → Fits seat_of log keeper home id (record (told v) { written = first })
  shown_new log keeper home id v first seen away wrote = record {
    seen = seen;
    keeps = λ k. absurd (off k);
    here = λ s e. absurd (away s e);
    elsewhere = λ s _. refl;
    own = λ s e. absurd (none_some s e);
    wrote = wrote;
  }

  tells_new : (id : ℕ) (v : View E) (first : List E) (s : State ℕ (View E)) (h : IsLogged seat_of s)
      → get_elem? s.views id ≡ some v → BeginsWith h.log first
      → IsLogged seat_of (record { words = s.words; homes = s.homes; views = set s.views id v ++ (record (told v) { written = first }) ∷ [] })
  tells_new id v first s h at wrote =
      let new : View E = record (told v) { written = first } in
      let mine = h.fit id v at in record {
        log = h.log;
        keeper = h.keeper;
        home = h.home;
        word = h.word;
        each =
            let p = held_set s.views id v v at in
            let q = held_snoc (set s.views id v) new in omega (arith, h.each, p, q);
        none = h.none;
        within = λ n. omega (arith, h.within n, length-set s.views id v, length-append (set s.views id v) (new ∷ []));
        fit =
            all_set_snoc (Fits seat_of h.log h.keeper h.home) s.views id v new (λ j u _ e. h.fit j u e) mine
            (shown_new h.log h.keeper h.home (length s.views) v first mine.seen (λ n e. absurd (omega (arith, h.within n, e))) wrote);
      }

  pub shows : (id : ℕ) (v : View E) → Splits (IsLogged seat_of) id v v (shown v)
  shows id v s h at = tells_new id v v.written s h at (h.fit id v at).wrote

  pub writes : (id : ℕ) (v : View E) → v.keeps ≡ true → Splits (IsLogged seat_of) id v v (written_out v)
  writes id v keeper s h at = tells_new id v v.log s h at ([], sym ((h.fit id v at).keeps keeper).all ∙ sym (append-nil v.log))

  pub compares : (slots id : ℕ) (me : Me ℕ (View E)) (st : Step ℕ) → me.1 ≡ []
      → Allows (IsLogged seat_of) slots id me 0 (λ n. n) (Compares st me)
  compares slots id me st empty =
      sees slots id me (Compares st) empty
      (λ v s h at found is. let mine = h.fit id v at in (
        (λ k. let own = mine.keeps k in
            (is ∙ sym own.counted, subst (λ (es : List E). BeginsWith es v.written) (sym own.all) mine.wrote)),
        refl,
      ))

  pub notes : (id : ℕ) (v : View E) → Splits (IsLogged seat_of) id v v (told v)
  notes id v s h at = tells_new id v [] s h at (nothing_yet h.log)

  -- ---- all is handed on

  -- of who does not take part
  bystander : (log : List E) (keeper : ℕ) (home : ℕ → ℕ) (from to id : ℕ) (u : View E) → from ≢ 0 → from ≢ id + 1 → to ≢ id + 1
      → Fits seat_of log keeper home id u → Fits seat_of log keeper (λ s. moved from to (home s)) id u
  bystander log keeper home from to id u is_one not_from not_to f = record {
    seen = f.seen;
    keeps = λ k. let own = f.keeps k in record {
      only = own.only;
      all = own.all;
      counted = own.counted;
      fresh = λ s le. moved_off from to (home s) (λ e. is_one (sym e ∙ own.fresh s le)) ∙ own.fresh s le;
    };
    here = λ s e. f.here s (was from to (home s) (id + 1) not_to e).0;
    elsewhere = λ s away. f.elsewhere s (λ e. away (moved_off from to (home s) (λ x. not_from (sym x ∙ e)) ∙ e));
    own = λ s e. moved_off from to (home s) (λ x. not_from (sym x ∙ f.own s e)) ∙ f.own s e;
    wrote = f.wrote;
  }

  pub hands_on : (id : ℕ) (v : View E) → Splits (IsLogged seat_of) id v (emptied v) (handed v)
  hands_on id v s h at =
      let mine = h.fit id v at in
      let new = length s.views in
      let low = at_below s.views id v at in
      let home : ℕ → ℕ = λ n. moved (id + 1) (new + 1) (h.home n) in
      let apart : new + 1 ≢ id + 1 = λ e. absurd (omega (arith, low, e)) in record {
        log = h.log;
        keeper = h.keeper;
        home = home;
        word = h.word;
        each =
            let p = held_set s.views id v (emptied v) at in
            let q = held_snoc (set s.views id (emptied v)) (handed v) in omega (arith, h.each, p, q);
        none = λ n e. h.none n (was (id + 1) (new + 1) (h.home n) 0 (λ x. absurd (omega (arith, x))) e).0;
        within = λ n. chosen (h.home n) (id + 1) (new + 1) (h.home n) (λ x. x ≤ length (set s.views id (emptied v) ++ handed v ∷ []))
            (λ _. omega (arith, length-set s.views id (emptied v), length-append (set s.views id (emptied v)) (handed v ∷ [])))
            (λ _. omega (arith, h.within n, length-set s.views id (emptied v), length-append (set s.views id (emptied v)) (handed v ∷ [])));
        fit =
            all_set_snoc (Fits seat_of h.log h.keeper home) s.views id (emptied v) (handed v)
            (λ j u ne e. let there = at_below s.views j u e in
            bystander h.log h.keeper h.home (id + 1) (new + 1) j u (λ x. absurd (omega (arith, x))) (λ x. ne (omega (arith, x)))
            (λ x. absurd (omega (arith, x, there))) (h.fit j u e))
            record {
              seen = mine.seen;
              keeps = λ k. let own = mine.keeps k in record {
                only = own.only;
                all = own.all;
                counted = own.counted;
                fresh = λ n le. moved_off (id + 1) (new + 1) (h.home n) (λ e. absurd (omega (arith, e, own.fresh n le))) ∙ own.fresh n le;
              };
              here = λ n e. let w = was (id + 1) (new + 1) (h.home n) (id + 1) apart e in absurd (w.1 w.0);
              elsewhere = λ n _. refl;
              own = λ n e. absurd (none_some n e);
              wrote = mine.wrote;
            }
            record {
              seen = mine.seen;
              keeps = λ k. absurd (off k);
              here = λ n. chosen (h.home n) (id + 1) (new + 1) (h.home n) (λ x. x ≡ new + 1 → of n v.list ≡ of n h.log)
                  (λ e _. mine.here n e) (λ _ e. absurd (omega (arith, e, h.within n)));
              elsewhere = λ n. chosen (h.home n) (id + 1) (new + 1) (h.home n) (λ x. x ≢ new + 1 → of n v.list ≡ [])
                  (λ _ ne. absurd (ne refl)) (λ ne _. mine.elsewhere n ne);
              own = λ n e. moved_on (id + 1) (new + 1) (h.home n) (mine.own n e);
              wrote = nothing_yet h.log;
            };
      }

  -- ---- one takes in another

  taken_seat : (home : ℕ → ℕ) (id other : ℕ) (a b : Option ℕ) → other ≢ id
      → ((s : ℕ) → a ≡ Some s → home s ≡ id + 1) → ((s : ℕ) → b ≡ Some s → home s ≡ other + 1)
      → (s : ℕ) → either_seat a b ≡ Some s → moved (other + 1) (id + 1) (home s) ≡ id + 1
  taken_seat home id other (Some n) b apart mine theirs s e =
      let at = mine s e in moved_off (other + 1) (id + 1) (home s) (λ x. apart (omega (arith, x, at))) ∙ at
  taken_seat home id other None b apart mine theirs s e = moved_on (other + 1) (id + 1) (home s) (theirs s e)

  takes_in : (id : ℕ) (v : View E) (other : ℕ) (w : View E) (first : List E)
      → ((log : List E) → BeginsWith log v.written → BeginsWith log w.written → BeginsWith log first)
      → Joins (IsLogged seat_of) id v other w (record (joined v w) { written = first }) nobody
  takes_in id v other w first which s h at apart there =
      let x : View E = record (joined v w) { written = first } in
      let mine = h.fit id v at in
      let was_there : get_elem? s.views other ≡ some w = ⊎_elim (λ (t : (other ≡ id) × (x ≡ w)). absurd (apart t.0)) (λ (t : (other ≢ id) × (get_elem? s.views other ≡ some w)). t.1) (at_set s.views id other x w there) in
      let theirs = h.fit other w was_there in
      let low = at_below s.views id v at in
      let home : ℕ → ℕ = λ n. moved (other + 1) (id + 1) (h.home n) in
      let back : id + 1 ≢ other + 1 = λ e. apart (omega (arith, e)) in record {
        log = h.log;
        keeper = h.keeper;
        home = home;
        word = h.word;
        each =
            let p = held_set s.views id v x at in
            let q = held_set (set s.views id x) other w nobody there in
            omega (arith, h.each, p, q, length-append v.list w.list);
        none = λ n e. h.none n (was (other + 1) (id + 1) (h.home n) 0 (λ y. absurd (omega (arith, y))) e).0;
        within = λ n. chosen (h.home n) (other + 1) (id + 1) (h.home n) (λ y. y ≤ length (set (set s.views id x) other nobody))
            (λ _. omega (arith, low, length-set s.views id x, length-set (set s.views id x) other nobody))
            (λ _. omega (arith, h.within n, length-set s.views id x, length-set (set s.views id x) other nobody));
        fit =
            all_set (Fits seat_of h.log h.keeper home) (set s.views id x) other nobody
            (λ j u not_other e.
            all_set (λ i y. i ≢ other → Fits seat_of h.log h.keeper home i y) s.views id x
            (λ i y not_id e' here. bystander h.log h.keeper h.home (other + 1) (id + 1) i y (λ z. absurd (omega (arith, z)))
            (λ z. here (omega (arith, z))) (λ z. not_id (omega (arith, z))) (h.fit i y e'))
            (λ _. record {
              seen = omega (arith, mine.seen, theirs.seen);
              keeps = λ k. let own = mine.keeps k in record {
                only = own.only;
                all = own.all;
                counted = own.counted;
                fresh = λ n le. moved_off (other + 1) (id + 1) (h.home n) (λ z. absurd (omega (arith, z, own.fresh n le))) ∙ own.fresh n le;
              };
              here = λ n. chosen (h.home n) (other + 1) (id + 1) (h.home n) (λ y. y ≡ id + 1 → of n (v.list ++ w.list) ≡ of n h.log)
                  (λ z _. none_then n v.list w.list (mine.elsewhere n (λ z'. apart (omega (arith, z, z')))) ∙ theirs.here n z)
                  (λ z e''. then_none n v.list w.list (theirs.elsewhere n z) ∙ mine.here n e'');
              elsewhere = λ n. chosen (h.home n) (other + 1) (id + 1) (h.home n) (λ y. y ≢ id + 1 → of n (v.list ++ w.list) ≡ [])
                  (λ _ ne. absurd (ne refl))
                  (λ z ne. both_none n v.list w.list (mine.elsewhere n ne) (theirs.elsewhere n z));
              own = taken_seat h.home id other v.seat w.seat apart mine.own theirs.own;
              wrote = which h.log mine.wrote theirs.wrote;
            })
            j u e not_other)
            record {
              seen = omega arith;
              keeps = λ k. absurd (off k);
              here = λ n e. let z = was (other + 1) (id + 1) (h.home n) (other + 1) back e in absurd (z.1 z.0);
              elsewhere = λ n _. refl;
              own = λ n e. absurd (none_some n e);
              wrote = nothing_yet h.log;
            };
      }

  pub joins : (id : ℕ) (v : View E) (other : ℕ) (w : View E) → Joins (IsLogged seat_of) id v other w (joined v w) nobody
  joins id v other w = takes_in id v other w v.written (λ log mine theirs. mine)

  pub reads : (id : ℕ) (v : View E) (other : ℕ) (w : View E) → Joins (IsLogged seat_of) id v other w (read_in v w) nobody
  reads id v other w = takes_in id v other w w.written (λ log mine theirs. theirs)

  -- ---- a new seat

  abbrev given : ℕ → ℕ → (ℕ → ℕ) → ℕ → ℕ
  given next to home s = either (eqb s next) to (home s)

  some_same : (a b : ℕ) → Some a ≡ Some b → b ≡ a
  some_same a b e = sym (ap (value a) e)
    where
      value : ℕ → Option ℕ → ℕ
      value n None = n
      value n (Some k) = k

  given_off : (next to : ℕ) (home : ℕ → ℕ) (s : ℕ) → s ≢ next → given next to home s ≡ home s
  given_off next to home s ne = chosen s next to (home s) (λ x. x ≡ home s) (λ e. absurd (ne e)) (λ _. refl)

  given_on : (next to : ℕ) (home : ℕ → ℕ) (s : ℕ) → s ≡ next → given next to home s ≡ to
  given_on next to home s e = chosen s next to (home s) (λ x. x ≡ to) (λ _. refl) (λ ne. absurd (ne e))

  pub seats : (id : ℕ) (v : View E) → v.keeps ≡ true → Splits (IsLogged seat_of) id v (one_less v) (newcomer v)
  seats id v keeper s h at =
      let mine = h.fit id v at in
      let keeps = mine.keeps keeper in
      let new = length s.views in
      let low = at_below s.views id v at in
      let free : h.home v.next ≡ 0 = keeps.fresh v.next (omega arith) in
      let home : ℕ → ℕ = given v.next (new + 1) h.home in
      let used : (n i : ℕ) → h.home n ≡ i + 1 → n ≢ v.next = λ n i e same. absurd (omega (arith, e, ap h.home same, free)) in record {
        log = h.log;
        keeper = h.keeper;
        home = home;
        word = h.word;
        each =
            let p = held_set s.views id v (one_less v) at in
            let q = held_snoc (set s.views id (one_less v)) (newcomer v) in omega (arith, h.each, p, q);
        none = λ n. chosen n v.next (new + 1) (h.home n) (λ x. x ≡ 0 → of n h.log ≡ []) (λ _ e. absurd (omega (arith, e))) (λ _ e. h.none n e);
        within = λ n. chosen n v.next (new + 1) (h.home n) (λ x. x ≤ length (set s.views id (one_less v) ++ newcomer v ∷ []))
            (λ _. omega (arith, length-set s.views id (one_less v), length-append (set s.views id (one_less v)) (newcomer v ∷ [])))
            (λ _. omega (arith, h.within n, length-set s.views id (one_less v), length-append (set s.views id (one_less v)) (newcomer v ∷ [])));
        fit =
            all_set_snoc (Fits seat_of h.log h.keeper home) s.views id (one_less v) (newcomer v)
            (λ j u ne e. let f = h.fit j u e in let there = at_below s.views j u e in record {
              seen = f.seen;
              keeps = λ k. absurd (ne ((f.keeps k).only ∙ sym keeps.only));
              here = λ n. chosen n v.next (new + 1) (h.home n) (λ x. x ≡ j + 1 → of n u.list ≡ of n h.log)
                  (λ _ x. absurd (omega (arith, x, there))) (λ _ x. f.here n x);
              elsewhere = λ n away. f.elsewhere n (λ x. away (given_off v.next (new + 1) h.home n (used n j x) ∙ x));
              own = λ n x. given_off v.next (new + 1) h.home n (used n j (f.own n x)) ∙ f.own n x;
              wrote = f.wrote;
            })
            record {
              seen = mine.seen;
              keeps = λ _. record {
                only = keeps.only;
                all = keeps.all;
                counted = keeps.counted;
                fresh = λ n le. given_off v.next (new + 1) h.home n (λ x. absurd (omega (arith, x, le))) ∙ keeps.fresh n (omega (arith, le));
              };
              here = λ n. chosen n v.next (new + 1) (h.home n) (λ x. x ≡ id + 1 → of n v.list ≡ of n h.log)
                  (λ _ x. absurd (omega (arith, x, low))) (λ _ x. mine.here n x);
              elsewhere = λ n away. mine.elsewhere n (λ x. away (given_off v.next (new + 1) h.home n (used n id x) ∙ x));
              own = λ n x. given_off v.next (new + 1) h.home n (used n id (mine.own n x)) ∙ mine.own n x;
              wrote = mine.wrote;
            }
            record {
              seen = omega arith;
              keeps = λ k. absurd (off k);
              here = λ n. chosen n v.next (new + 1) (h.home n) (λ x. x ≡ new + 1 → (let none : List E = [] in none) ≡ of n h.log)
                  (λ same _. sym (h.none n (ap h.home same ∙ free))) (λ _ x. absurd (omega (arith, x, h.within n)));
              elsewhere = λ n _. refl;
              own = λ n e. given_on v.next (new + 1) h.home n (some_same v.next n e);
              wrote = nothing_yet h.log;
            };
      }

  -- ---- one more happened

  mod_small : (n : ℕ) → n + 1 < 2 ^ 64 → (n + 1) % 2 ^ 64 ≡ n + 1
  mod_small n h = search rules

  counts_bare : (slots id : ℕ) (v : View E) (e : E) (st : Step ℕ) → v.keeps ≡ true → v.count + 1 < 2 ^ 64 → v.seat ≡ Some (seat_of e)
      → Allows (IsLogged seat_of) slots id (v, []) 0 (λ n. (n + 1) % 2 ^ 64) (Counts (e ∷ []) st (v, []))
  counts_bare slots id v e st keeper room seat s h homes at fits =
      let found = slice_index s.words 0 in
      let is : found ≡ length h.log = ap (λ ws. slice_index ws 0) h.word in
      let mine = h.fit id v at in
      let known = mine.keeps keeper in
      let log : List E = h.log ++ e ∷ [] in
      let w : View E = record v { count = v.count + 1; at = v.count + 1; log = v.log ++ e ∷ []; list = v.list ++ e ∷ [] } in
      let long : v.count + 1 ≡ length log = omega (arith, known.counted, length-append h.log (e ∷ [])) in
      let word : (found + 1) % 2 ^ 64 ≡ length log = ap (λ n. (n + 1) % 2 ^ 64) (is ∙ sym known.counted) ∙ mod_small v.count room ∙ long in
      let mine_here : h.home (seat_of e) ≡ id + 1 = mine.own (seat_of e) seat in
      let not_mine : (n : ℕ) → h.home n ≢ id + 1 → seat_of e ≢ n = λ n away same. away (ap h.home (sym same) ∙ mine_here) in (
        w,
        keeps,
        tt,
        record {
          log = log;
          keeper = h.keeper;
          home = h.home;
          word = λ i. slice_set (h.word i) 0 (word i);
          each =
              let p = held_set s.views id v w at in
              omega (arith, h.each, p, length-append v.list (e ∷ []), length-append h.log (e ∷ []));
          none = λ n none. both_none n h.log (e ∷ []) (h.none n none) (not_of n e (not_mine n (λ x. absurd (omega (arith, x, none)))));
          within = λ n. omega (arith, h.within n, length-set s.views id w);
          fit =
              all_set (Fits seat_of log h.keeper h.home) s.views id w
              (λ j u ne there. let f = h.fit j u there in record {
                seen = omega (arith, f.seen, length-append h.log (e ∷ []));
                keeps = λ k. absurd (ne ((f.keeps k).only ∙ sym known.only));
                here = λ n x. f.here n x ∙ sym (then_none n h.log (e ∷ []) (not_of n e (not_mine n (λ y. ne (omega (arith, x, y))))));
                elsewhere = f.elsewhere;
                own = f.own;
                wrote = behind h.log u.written e f.wrote;
              })
              record {
                seen = omega (arith, long);
                keeps = λ _. record {
                  only = known.only;
                  all = ap (λ (es : List E). es ++ e ∷ []) known.all;
                  counted = long;
                  fresh = known.fresh;
                };
                here = λ n x. of_append n v.list (e ∷ []) ∙ ap (λ (es : List E). es ++ of n (e ∷ [])) (mine.here n x) ∙ sym (of_append n h.log (e ∷ []));
                elsewhere = λ n away. both_none n v.list (e ∷ []) (mine.elsewhere n away) (not_of n e (not_mine n away));
                own = mine.own;
                wrote = behind h.log v.written e mine.wrote;
              };
        },
        (omega (arith, mine.seen, is), refl),
      )

  -- each count of the keeper, which holds no slot, keeps the rule
  pub counts : (slots id : ℕ) (me : Me ℕ (View E)) (more : List E) (e : E) (st : Step ℕ) → me.1 ≡ [] → more ≡ e ∷ [] → me.0.keeps ≡ true
      → me.0.count + 1 < 2 ^ 64 → me.0.seat ≡ Some (seat_of e)
      → Allows (IsLogged seat_of) slots id me 0 (λ n. (n + 1) % 2 ^ 64) (Counts more st me)
  counts slots id me more e st empty is keeper room seat =
      let P : List (ℕ × ℕ) → List E → Type 0 =
      λ held es. Allows (IsLogged seat_of) slots id (me.0, held) 0 (λ n. (n + 1) % 2 ^ 64) (Counts es st (me.0, held)) in
      subst (λ (held : List (ℕ × ℕ)). P held more) (sym empty)
      (subst (λ (es : List E). P [] es) (sym is) (counts_bare slots id me.0 e st keeper room seat))
