-- What the rings of a window say of its numbers.
use Rattle.std.proofs.Common.{◌≡◌, ℕ, ◌<◌, ◌≤◌, ◌+◌, ◌-◌, ◌%◌, Bool, true, false, not, ◌&&◌, ◌||◌, cond, eqb, List, length, get_or, refl, inl, inr, sym, ap, ◌∙◌, arith}
use Rattle.std.specs.Prelude.{is_some, is_none, Option, None, Some, nat_le, nat_lt, ◌⊎◌}
use Rattle.std.proofs.lemmas.Bool.{le-leb, ltb-true, ltb-false, lt-ltb, le-ltb, lt-leb, eq-eqb, ne_eqb, eqb-true, cases_eq, cases_lt, cases_Bool}
use Rattle.std.proofs.lemmas.Bool.Decides.{nat_tests}
use Rattle.std.proofs.lemmas.List.{get_or_past}
use Rattle.rtps_sets.specs.Bits.{is_free}
use Rattle.rtps_sets.specs.NumberSet.{NumberSet, has_number}
use Rattle.rtps_sets.specs.Window.{Marks, mark_of, ring_mark, in_ring, is_in_window}
use Rattle.rtps_sets.specs.declared.window.Mark.{Mark}
use Rattle.rtps_sets.specs.declared.window.Mark.TheVariants.{Held, Irrelevant}

and_none : (b : Bool) → (b && false) ≡ false
and_none true = refl
and_none false = refl

none_same : (b : Bool) → let none : Option Mark = None in cond b none none ≡ none
none_same true = refl
none_same false = refl

and_true : (b : Bool) → (b && true) ≡ b
and_true true = refl
and_true false = refl

pub in_window : (place n : ℕ) → place ≤ n → n < place + 256 → is_in_window place n ≡ true
in_window place n low high = rw (le-leb place n low) (lt-ltb n (place + 256) high)

below_window : (place n : ℕ) → n < place → is_in_window place n ≡ false
below_window place n low = grind (arith, nat_tests)

pub above_window : (place n : ℕ) → place + 256 ≤ n → is_in_window place n ≡ false
above_window place n high = grind (arith, nat_tests)

pub window_from : (place n : ℕ) → is_in_window place n ≡ true → place ≤ n
window_from place n is = grind (arith, nat_tests)

pub window_to : (place n : ℕ) → is_in_window place n ≡ true → n < place + 256
window_to place n is = grind (arith, nat_tests)

pub mark_inside : (w : Marks) (n : ℕ) → is_in_window w.place n ≡ true → mark_of w n ≡ ring_mark w.held w.irrelevant n
unfolding mark_of
mark_inside w n is = rw is refl

pub mark_outside : (w : Marks) (n : ℕ) → is_in_window w.place n ≡ false → mark_of w n ≡ None
unfolding mark_of
mark_outside w n is = rw is refl

-- a number from the place on without a bit has no mark, also past the window
pub none_from_rings : (w : Marks) (n : ℕ) → w.place ≤ n
    → (n < w.place + 256 → ring_mark w.held w.irrelevant n ≡ None) → mark_of w n ≡ None
none_from_rings w n low none = by (cases_lt n (w.place + 256))
  where
    by : (n < w.place + 256) ⊎ (w.place + 256 ≤ n) → mark_of w n ≡ None
    by (inl less) = mark_inside w n (in_window w.place n low less) ∙ none less
    by (inr past) = mark_outside w n (above_window w.place n past)

-- two numbers of one window have two places in a ring
pub same_place : (place number n : ℕ) → is_in_window place number ≡ true → is_in_window place n ≡ true
    → eqb (n % 256) (number % 256) ≡ eqb number n
same_place place number n there here = by (cases_eq number n)
  where
    by : (number ≡ n) ⊎ (number ≡ n → ⊥) → eqb (n % 256) (number % 256) ≡ eqb number n
    by (inl e) = eq-eqb (n % 256) (number % 256) (ap (λ (k : ℕ). k % 256) (sym e)) ∙ sym (eq-eqb number n e)
    by (inr ne) =
        let a = window_from place number there in
        let b = window_to place number there in
        let c = window_from place n here in
        let d = window_to place n here in
        ne_eqb (n % 256) (number % 256) (λ e. ne (omega arith)) ∙ sym (ne_eqb number n ne)

-- the ring has gained the bit of a place
abbrev pub Gains : List Bool → List Bool → ℕ → Type 0
Gains old new place = (k : ℕ) → get_or new k false ≡ (get_or old k false || eqb k place)

held_more : (x y same : Bool) → cond (x || same) (Some Held) (cond y (Some Irrelevant) None)
    ≡ cond same (Some Held) (cond x (Some Held) (cond y (Some Irrelevant) None))
held_more true y true = refl
held_more true y false = refl
held_more false y true = refl
held_more false y false = refl

irrelevant_more : (x y same : Bool) → (same ≡ true → x ≡ false)
    → cond x (Some Held) (cond (y || same) (Some Irrelevant) None)
    ≡ cond same (Some Irrelevant) (cond x (Some Held) (cond y (Some Irrelevant) None))
irrelevant_more true y true fresh = absurd (let e : true ≡ false = fresh refl in cc)
irrelevant_more true y false fresh = refl
irrelevant_more false true true fresh = refl
irrelevant_more false false true fresh = refl
irrelevant_more false true false fresh = refl
irrelevant_more false false false fresh = refl

not_held : (x y : Bool) → cond x (Some Held) (cond y (Some Irrelevant) None) ≡ None → x ≡ false
not_held true y e = absurd (cc)
not_held false y e = refl

other_number : (place number n : ℕ) → is_in_window place number ≡ true → is_in_window place n ≡ false
    → eqb number n ≡ false
other_number place number n there out = ne_eqb number n (λ e. grind (arith, nat_tests))

-- a window whose ring of held changes has gained a number of it
pub marks_held : (place number n : ℕ) (held irrelevant new : List Bool) → is_in_window place number ≡ true
    → Gains held new (number % 256)
    → mark_of (record { place = place; held = new; irrelevant = irrelevant }) n
    ≡ cond (eqb number n) (Some Held) (mark_of (record { place = place; held = held; irrelevant = irrelevant }) n)
marks_held place number n held irrelevant new there gains = by (cases_Bool (is_in_window place n))
  where
    by : (is_in_window place n ≡ true) ⊎ (is_in_window place n ≡ false)
        → mark_of (record { place = place; held = new; irrelevant = irrelevant }) n
        ≡ cond (eqb number n) (Some Held) (mark_of (record { place = place; held = held; irrelevant = irrelevant }) n)
    by (inl here) =
        let bit : in_ring new n ≡ (in_ring held n || eqb number n) =
        gains (n % 256) ∙ ap (λ (b : Bool). in_ring held n || b) (same_place place number n there here) in
        rw (
          mark_inside (record { place = place; held = new; irrelevant = irrelevant }) n here,
          mark_inside (record { place = place; held = held; irrelevant = irrelevant }) n here,
          bit,
        )
        (held_more (in_ring held n) (in_ring irrelevant n) (eqb number n))
    by (inr out) =
        rw (
          mark_outside (record { place = place; held = new; irrelevant = irrelevant }) n out,
          mark_outside (record { place = place; held = held; irrelevant = irrelevant }) n out,
          other_number place number n there out,
        ) refl

-- a window whose ring of irrelevant numbers has gained a number that had no mark
pub marks_irrelevant : (place number n : ℕ) (held irrelevant new : List Bool) → is_in_window place number ≡ true
    → mark_of (record { place = place; held = held; irrelevant = irrelevant }) number ≡ None
    → Gains irrelevant new (number % 256)
    → mark_of (record { place = place; held = held; irrelevant = new }) n
    ≡ cond (eqb number n) (Some Irrelevant) (mark_of (record { place = place; held = held; irrelevant = irrelevant }) n)
marks_irrelevant place number n held irrelevant new there fresh gains = by (cases_Bool (is_in_window place n))
  where
    by : (is_in_window place n ≡ true) ⊎ (is_in_window place n ≡ false)
        → mark_of (record { place = place; held = held; irrelevant = new }) n
        ≡ cond (eqb number n) (Some Irrelevant)
        (mark_of (record { place = place; held = held; irrelevant = irrelevant }) n)
    by (inl here) =
        let bit : in_ring new n ≡ (in_ring irrelevant n || eqb number n) =
        gains (n % 256) ∙ ap (λ (b : Bool). in_ring irrelevant n || b) (same_place place number n there here) in
        rw (
          mark_inside (record { place = place; held = held; irrelevant = new }) n here,
          mark_inside (record { place = place; held = held; irrelevant = irrelevant }) n here,
          bit,
        )
        (irrelevant_more (in_ring held n) (in_ring irrelevant n) (eqb number n)
        (λ same. ap (λ (k : ℕ). in_ring held k) (sym (eqb-true number n same))
        ∙ not_held (in_ring held number) (in_ring irrelevant number)
        (sym (mark_inside (record { place = place; held = held; irrelevant = irrelevant }) number there) ∙ fresh)))
    by (inr out) =
        rw (
          mark_outside (record { place = place; held = held; irrelevant = new }) n out,
          mark_outside (record { place = place; held = held; irrelevant = irrelevant }) n out,
          other_number place number n there out,
        ) refl

-- the ring has moved from one place to another: the bits of its old window stay, and no other is set
abbrev pub Moves : List Bool → List Bool → ℕ → ℕ → Type 0
Moves old new from to = (n : ℕ) → to ≤ n → n < to + 256 → in_ring new n ≡ (nat_lt n (from + 256) && in_ring old n)

both_kept : (kept x y : Bool) → cond (kept && x) (Some Held) (cond (kept && y) (Some Irrelevant) None)
    ≡ cond kept (cond x (Some Held) (cond y (Some Irrelevant) None)) None
both_kept true x y = refl
both_kept false x y = refl

-- a window whose place moves up forgets the marks below, and has no new ones
pub marks_from : (place to n : ℕ) (held irrelevant held_new irrelevant_new : List Bool) → place ≤ to
    → Moves held held_new place to → Moves irrelevant irrelevant_new place to
    → mark_of (record { place = to; held = held_new; irrelevant = irrelevant_new }) n
    ≡ cond (nat_le to n) (mark_of (record { place = place; held = held; irrelevant = irrelevant }) n) None
marks_from place to n held irrelevant held_new irrelevant_new forward h i = by (cases_lt n to) (cases_lt n (to + 256))
  where
    new : Marks
    new = record { place = to; held = held_new; irrelevant = irrelevant_new }

    old : Marks
    old = record { place = place; held = held; irrelevant = irrelevant }

    kept : to ≤ n → (b : Bool) → nat_lt n (place + 256) ≡ b
        → mark_of old n ≡ cond b (ring_mark held irrelevant n) None
    kept le true less = mark_inside old n (in_window place n (omega arith) (ltb-true n (place + 256) less))
    kept le false past = mark_outside old n (above_window place n (ltb-false n (place + 256) past))

    by : (n < to) ⊎ (to ≤ n) → (n < to + 256) ⊎ (to + 256 ≤ n)
        → mark_of new n ≡ cond (nat_le to n) (mark_of old n) None
    by (inl lt) high = rw (mark_outside new n (below_window to n lt), lt-leb to n lt) refl
    by (inr le) (inl less) =
        rw (le-leb to n le, mark_inside new n (in_window to n le less), h n le less, i n le less)
        (both_kept (nat_lt n (place + 256)) (in_ring held n) (in_ring irrelevant n)
        ∙ sym (kept le (nat_lt n (place + 256)) refl))
    by (inr le) (inr past) =
        rw (
          le-leb to n le,
          mark_outside new n (above_window to n past),
          mark_outside old n (above_window place n (omega arith)),
        ) refl

-- a number's bit is that of the number of the window with the same place in the ring
pub ring_same : (ring : List Bool) (n k : ℕ) → n % 256 ≡ k % 256 → in_ring ring n ≡ in_ring ring k
ring_same ring n k e = ap (λ (place : ℕ). get_or ring place false) e

-- the bits of the numbers from one to another are cleared
abbrev pub Clears : List Bool → List Bool → ℕ → ℕ → Type 0
Clears old new from to = (n : ℕ) → from ≤ n → n < from + 256 → in_ring new n ≡ (nat_le to n && in_ring old n)

pub none_cleared : (ring : List Bool) (from : ℕ) → Clears ring ring from from
none_cleared ring from n low high = rw (le-leb from n low) refl

cleared : (low next x same : Bool) → (same ≡ true → next ≡ false) → (same ≡ false → next ≡ low)
    → ((low && x) && not same) ≡ (next && x)
cleared low next x true e f = rw (e refl) (and_none (low && x))
cleared low next x false e f = rw (f refl) (and_true (low && x))

pub one_cleared : (old ring new : List Bool) (from number : ℕ) → from ≤ number → number < from + 256
    → Clears old ring from number
    → ((k : ℕ) → get_or new k false ≡ (get_or ring k false && not (eqb k (number % 256))))
    → Clears old new from (number + 1)
one_cleared old ring new from number low high before step n from_n to_n =
    let same : eqb (n % 256) (number % 256) ≡ eqb number n =
    same_place from number n (in_window from number low high) (in_window from n from_n to_n) in
    step (n % 256)
    ∙ (ap (λ (b : Bool). in_ring ring n && not b) same
    ∙ (ap (λ (b : Bool). b && not (eqb number n)) (before n from_n to_n)
    ∙ cleared (nat_le number n) (nat_le (number + 1) n) (in_ring old n) (eqb number n)
    (λ t. grind (arith, nat_tests)) (λ t. grind (arith, nat_tests))))

-- after the numbers from one place to another, or all of the window, were cleared the ring has moved
pub all_cleared : (old new : List Bool) (from end to : ℕ) → from ≤ end → end ≤ to → (to < from + 256 → end ≡ to)
    → (from + 256 ≤ to → end ≡ from + 256) → Clears old new from end → Moves old new from to
all_cleared old new from end to low within near far clears n le lt = by (cases_lt n (from + 256))
  where
    past_end : (to < from + 256) ⊎ (from + 256 ≤ to) → from + 256 ≤ n → from + (n - from) % 256 < end
    past_end (inl less) past = let e = near less in omega arith
    past_end (inr more) past = let e = far more in omega arith

    gone : (b x : Bool) → b ≡ false → (b && x) ≡ false
    gone b x e = rw e refl

    by : (n < from + 256) ⊎ (from + 256 ≤ n) → in_ring new n ≡ (nat_lt n (from + 256) && in_ring old n)
    by (inl less) =
        rw (lt-ltb n (from + 256) less)
        (clears n (omega arith) less ∙ rw (le-leb end n (omega arith)) refl)
    by (inr past) =
        let same : n % 256 ≡ (from + (n - from) % 256) % 256 = omega arith in
        rw (le-ltb n (from + 256) past)
        (ring_same new n (from + (n - from) % 256) same
        ∙ (clears (from + (n - from) % 256) (omega arith) (omega arith)
        ∙ gone (nat_le end (from + (n - from) % 256)) (in_ring old (from + (n - from) % 256))
        (lt-leb end (from + (n - from) % 256) (past_end (cases_lt to (from + 256)) past))))

-- where nothing was marked, and the ring was empty
pub no_marks : (n : ℕ) (held irrelevant : List Bool) (place : ℕ) → ((k : ℕ) → get_or held k false ≡ false)
    → ((k : ℕ) → get_or irrelevant k false ≡ false)
    → mark_of (record { place = place; held = held; irrelevant = irrelevant }) n ≡ None
unfolding mark_of
no_marks n held irrelevant place h i = rw (h (n % 256), i (n % 256)) (none_same (is_in_window place n))

pub none_of : (o : Option Mark) → is_some o ≡ false → o ≡ None
none_of None e = refl
none_of (Some m) e = absurd (cc)

neither : (x y : Bool) → not (x || y) ≡ is_none (cond x (Some Held) (cond y (Some Irrelevant) None))
neither true y = refl
neither false true = refl
neither false false = refl

-- the set of the bits that are free in both rings, up to a bound, has the numbers of the window that are missing
pub missing_numbers : (w : Marks) (set : NumberSet) (free : List Bool) (first bound count n : ℕ) → set.base ≡ w.place
    → set.members ≡ free → length free ≡ 256 → first ≡ w.place % 256
    → ((k : ℕ) → k < 256 → get_or free k false ≡ is_free w.held w.irrelevant first count k)
    → ((k : ℕ) → w.place ≤ k → k < w.place + 256 → nat_lt (k - w.place) count ≡ nat_le k bound)
    → has_number set n ≡ (is_in_window w.place n && (nat_le n bound && is_none (mark_of w n)))
missing_numbers w set free first bound count n base members long at bits within =
    is_has ∙ by (cases_lt n w.place) (cases_lt n (w.place + 256))
  where
    is_has : has_number set n ≡ (nat_le w.place n && get_or free (n - w.place) false)
    is_has = rw (base, members) refl

    by : (n < w.place) ⊎ (w.place ≤ n) → (n < w.place + 256) ⊎ (w.place + 256 ≤ n)
        → (nat_le w.place n && get_or free (n - w.place) false)
        ≡ (is_in_window w.place n && (nat_le n bound && is_none (mark_of w n)))
    by (inl lt) high = rw (below_window w.place n lt, lt-leb w.place n lt) refl
    by (inr le) (inr past) =
        rw (above_window w.place n past, get_or_past free (n - w.place) false (omega (arith, long)))
        (and_none (nat_le w.place n))
    by (inr le) (inl less) =
        let bit : (first + (n - w.place)) % 256 ≡ n % 256 = omega (arith, at) in
        let is : get_or free (n - w.place) false
        ≡ (nat_lt (n - w.place) count && not (in_ring w.held n || in_ring w.irrelevant n)) =
        bits (n - w.place) (omega arith)
        ∙ ap (λ (k : ℕ). nat_lt (n - w.place) count && not (get_or w.held k false || get_or w.irrelevant k false)) bit in
        rw (
          in_window w.place n le less,
          le-leb w.place n le,
          is,
          within n le less,
          mark_inside w n (in_window w.place n le less),
        )
        (ap (λ (b : Bool). nat_le n bound && b) (neither (in_ring w.held n) (in_ring w.irrelevant n)))
