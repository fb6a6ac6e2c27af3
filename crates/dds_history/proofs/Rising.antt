-- Which numbers are awaited, and where a number stands among entries whose numbers rise.
use Rattle.std.proofs.Common.{◌≡◌, ℕ, zero, suc, ◌+◌, ◌<◌, ◌≤◌, Bool, true, false, ◌||◌, cond, min, Option, Some, None, List, [], ◌∷◌, length, slice_get, get_or, refl, ap, sym, subst, ◌∙◌, arith}
use Rattle.std.specs.Prelude.{nat_lt, nat_le, find, ◌==◌}
use Rattle.std.specs.List.{fold, reduce}
use Rattle.std.specs.Borrow.{Bor}
use Rattle.std.specs.Option.{option_copied, unwrap_or}
use Rattle.std.specs.Slice.{IsItemAt}
use Rattle.std.specs.List.Sorted.{IsPartitionPoint, IsPartitionedBy}
use Rattle.std.proofs.lemmas.Bool.Decides.{nat_tests}
use Rattle.dds_history.specs.declared.held.Entry.{Entry}
use Rattle.dds_history.specs.Entries.{Rises, RisesFrom}
use Rattle.dds_history.specs.Held.{awaits}
use Rattle.dds_history.proofs.Numbering.{passing}

pub rises_from-weaker : (m n : ℕ) (es : List Entry) → m ≤ n → RisesFrom n es → RisesFrom m es
rises_from-weaker m n [] le h = h
rises_from-weaker m n (e ∷ es) le h = (omega (arith, h.0), h.1)

-- ---- what is awaited

either : (a b c rest : Bool) → c ≡ (a || b) → (a || (b || rest)) ≡ (c || rest)
either true b c rest h = sym (ap (λ (v : Bool). v || rest) h)
either false b c rest h = sym (ap (λ (v : Bool). v || rest) h)

or_neither : (a : Bool) → (a || false) ≡ a
or_neither true = refl
or_neither false = refl

least_awaits : (a : ℕ) (acks : List ℕ) (n : ℕ) → (nat_le a n || awaits acks n) ≡ nat_le (fold min a acks) n
least_awaits a [] n = or_neither (nat_le a n)
least_awaits a (b ∷ acks) n =
    either (nat_le a n) (nat_le b n) (nat_le (min a b) n) (awaits acks n) (grind (arith, nat_tests))
    ∙ least_awaits (min a b) acks n

-- a number is awaited from the least acknowledgement on
pub awaited-from_least : (acks : List ℕ) (none n : ℕ) → 0 < length acks → awaits acks n
    ≡ nat_le (unwrap_or (reduce min acks) none) n
awaited-from_least [] none n some = absurd (omega arith)
awaited-from_least (a ∷ acks) none n some = least_awaits a acks n

abbrev pub at_entry : ℕ → Entry → Bool
at_entry m e = e.number == m

-- ---- where a number stands

rises-at : (n i : ℕ) (e : Entry) (es : List Entry) → RisesFrom n es → slice_get es i ≡ Some e → n ≤ e.number
rises-at n i e [] h at = cc
rises-at n zero e (x ∷ es) h at = let same : x ≡ e = cc in subst (λ (y : Entry). n ≤ y.number) same h.0
rises-at n (suc i) e (x ∷ es) h at =
    let later = rises-at (x.number + 1) i e es h.1 at in
    omega (arith, later, h.0)

find_above : (m n : ℕ) (es : List Entry) → m < n → RisesFrom n es → find (at_entry m) es ≡ None
find_above m n [] lt h = refl
find_above m n (e ∷ es) lt h =
    let other : at_entry m e ≡ false = grind (arith, nat_tests, h.0) in
    ap (λ (v : Bool). cond v (Some e) (find (at_entry m) es)) other
    ∙ find_above m (e.number + 1) es (omega (arith, h.0)) h.1

-- what is found at a number is the change at the place before which all numbers are lower, and from which on none is,
-- if it has the number
pub find_at_place : (m i n : ℕ) (es : List Entry) → RisesFrom n es
    → ((k : ℕ) (d : Entry) → k < i → k < length es → (get_or es k d).number < m)
    → ((k : ℕ) (d : Entry) → i ≤ k → k < length es → m ≤ (get_or es k d).number)
    → find (at_entry m) es ≡ passing (at_entry m) (slice_get es i)
find_at_place m i n [] h below above = refl
find_at_place m zero n (e ∷ es) h below above =
    step (at_entry m e) refl
  where
    step : (b : Bool) → at_entry m e ≡ b → cond b (Some e) (find (at_entry m) es) ≡ cond b (Some e) None
    step true is = refl
    step false is =
        let at_least = above 0 e (omega arith) (omega arith) in
        let lt : m < e.number + 1 = omega (arith, at_least) in
        find_above m (e.number + 1) es lt h.1
find_at_place m (suc i) n (e ∷ es) h below above =
    let lower = below 0 e (omega arith) (omega arith) in
    let other : at_entry m e ≡ false = grind (arith, nat_tests, lower) in
    ap (λ (v : Bool). cond v (Some e) (find (at_entry m) es)) other
    ∙ find_at_place m i (e.number + 1) es h.1
    (λ k d lt in_range. below (suc k) d (omega arith) (omega arith))
    (λ k d le in_range. above (suc k) d (omega arith) (omega arith))

-- numbers that rise are parted by any number
pub parted : (m n : ℕ) (es : List Entry) → RisesFrom n es → IsPartitionedBy (λ e. nat_lt e.number m) es
parted m n [] h i j d le lt t = absurd (omega arith)
parted m n (e ∷ es) h zero zero d le lt t = t
parted m n (e ∷ es) h zero (suc j) d le lt t =
    let at_least = later (e.number + 1) es h.1 j d (omega arith) in
    grind (arith, nat_tests)
  where
    later : (n : ℕ) (es : List Entry) → RisesFrom n es → (j : ℕ) (d : Entry) → j < length es
        → n ≤ (get_or es j d).number
    later n [] h j d lt = absurd (omega arith)
    later n (x ∷ xs) h zero d lt = h.0
    later n (x ∷ xs) h (suc j) d lt =
        let more = later (x.number + 1) xs h.1 j d (omega arith) in
        omega (arith, more, h.0)
parted m n (e ∷ es) h (suc i) zero d le lt t = absurd (omega arith)
parted m n (e ∷ es) h (suc i) (suc j) d le lt t = parted m (e.number + 1) es h.1 i j d (omega arith) (omega arith) t

nothing_at : (es : List Entry) (i : ℕ) → length es ≤ i → slice_get es i ≡ None
nothing_at [] i le = refl
nothing_at (e ∷ es) zero le = absurd (omega arith)
nothing_at (e ∷ es) (suc i) le = nothing_at es i (omega arith)

something_at : (es : List Entry) (i : ℕ) (x : Entry) → i < length es → x ≡ get_or es i x
    → slice_get es i ≡ Some x
something_at [] i x lt is = absurd (omega arith)
something_at (e ∷ es) zero x lt is = ap (λ (y : Entry). Some y) (sym is)
something_at (e ∷ es) (suc i) x lt is = something_at es i x (omega arith) is

-- what a queue answers at a place is what stands there
pub got : (es : List Entry) (i : ℕ) (r : Option (Bor Entry)) → IsItemAt es i r → option_copied r
    ≡ slice_get es i
got es i None h = sym (nothing_at es i h.3)
got es i (Some x) h = sym (something_at es i x.now h.3.0 (h.3.1 x.now))

-- what is found at a number is what stands at the place that a search gives, if it has the number
pub find_parted : (m i : ℕ) (es : List Entry) (r : Option (Bor Entry)) → Rises es
    → IsPartitionPoint (λ e. nat_lt e.number m ≡ true) (λ e. nat_lt e.number m ≡ false) es i → IsItemAt es i r
    → passing (at_entry m) (option_copied r) ≡ find (at_entry m) es
find_parted m i es r rises point item =
    ap (λ (o : Option Entry). passing (at_entry m) o) (got es i r item)
    ∙ sym (find_at_place m i 0 es rises
    (λ k d lt in_range. let t = point.0 k d (omega arith) lt in grind (arith, nat_tests))
    (λ k d le in_range. let t = point.1 k d le in_range in grind (arith, nat_tests)))

pub has_number : (m : ℕ) (e : Entry) → e.number ≡ m → Some e ≡ passing (at_entry m) (Some e)
has_number m e is =
    let here : at_entry m e ≡ true = grind (arith, nat_tests) in
    sym (ap (λ (b : Bool). cond b (Some e) None) here)

pub has_another : (m : ℕ) (e : Entry) → (e.number ≡ m → ⊥) → None ≡ passing (at_entry m) (Some e)
has_another m e is_not =
    let other : at_entry m e ≡ false = grind (arith, nat_tests) in
    sym (ap (λ (b : Bool). cond b (Some e) None) other)

-- a change is the one that is found at its number
pub found_itself : (i n : ℕ) (e : Entry) (es : List Entry) → RisesFrom n es → slice_get es i ≡ Some e
    → find (at_entry e.number) es ≡ Some e
found_itself i n e [] h at = cc
found_itself zero n e (x ∷ es) h at =
    let same : x ≡ e = cc in
    let here : at_entry e.number x ≡ true = let is = ap (λ (y : Entry). y.number) same in grind (arith, nat_tests) in
    ap (λ (b : Bool). cond b (Some x) (find (at_entry e.number) es)) here ∙ ap (λ (y : Entry). Some y) same
found_itself (suc i) n e (x ∷ es) h at =
    let later = rises-at (x.number + 1) i e es h.1 at in
    let other : at_entry e.number x ≡ false = grind (arith, nat_tests) in
    ap (λ (b : Bool). cond b (Some x) (find (at_entry e.number) es)) other ∙ found_itself i (x.number + 1) e es h.1 at
