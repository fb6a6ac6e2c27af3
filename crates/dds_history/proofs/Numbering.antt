-- What stands at a number, among all changes and among those that pass a test.
use Rattle.std.proofs.Common.{◌≡◌, ℕ, zero, suc, ◌+◌, ◌<◌, Bool, true, false, cond, Option, Some, None, List, [], ◌∷◌, length, drop, count_by, slice_get, refl, ap, sym, ◌∙◌, arith}
use Rattle.std.specs.Prelude.{if◌then◌else◌, ◌==◌, filter, find}
use Rattle.std.specs.Option.{option_map}
use Rattle.std.proofs.lemmas.Bool.Decides.{nat_tests}
use Rattle.std.proofs.lemmas.Option.{same_Some}
use Rattle.std.proofs.lemmas.List.Sums.{sum_by-cons}
use Rattle.dds_base.specs.declared.change.Change.{Change}
use Rattle.dds_base.specs.declared.qos.HistoryQos.{HistoryQos}
use Rattle.dds_base.specs.Kept.{numbers_from}
use Rattle.dds_history.specs.Held.{HeldChange, all_from, remaining_before}

-- the numbers of these changes run from this one on
abbrev pub AreNumbered : ℕ → List HeldChange → Type 0
AreNumbered n es = (i : ℕ) (e : HeldChange) → slice_get es i ≡ Some e → e.number ≡ n + i

pub numbered-tail : (n : ℕ) (x : HeldChange) (es : List HeldChange) → AreNumbered n (x ∷ es) → AreNumbered (n + 1) es
numbered-tail n x es h i e at = let is = h (suc i) e at in omega (arith, is)

pub numbered-head : (n : ℕ) (x : HeldChange) (es : List HeldChange) → AreNumbered n (x ∷ es) → x.number ≡ n
numbered-head n x es h = let is = h 0 x refl in omega (arith, is)

-- what the history would hold of this change, with these later ones
abbrev pub entry_of : HistoryQos → ℕ → Change → List Change → HeldChange
entry_of policy n c later = record { number = n; change = c; remaining = remaining_before policy later c.key }

pub all-at : (policy : HistoryQos) (n : ℕ) (cs : List Change) (i : ℕ)
    → slice_get (all_from policy n cs) i
    ≡ option_map (λ (c : Change). entry_of policy (n + i) c (drop (suc i) cs)) (slice_get cs i)
all-at policy n [] i = refl
all-at policy n (c ∷ cs) zero = let same : n ≡ n + 0 = omega arith in ap (λ (k : ℕ). Some (entry_of policy k c cs)) same
all-at policy n (c ∷ cs) (suc i) =
    let same : n + 1 + i ≡ n + suc i = omega arith in
    all-at policy (n + 1) cs i
    ∙ ap (λ (k : ℕ). option_map (λ (x : Change). entry_of policy k x (drop (suc i) cs)) (slice_get cs i)) same

pub length-all : (policy : HistoryQos) (n : ℕ) (cs : List Change) → length (all_from policy n cs) ≡ length cs
length-all policy n [] = refl
length-all policy n (c ∷ cs) = ap suc (length-all policy (n + 1) cs)

number_at : (policy : HistoryQos) (n i : ℕ) (later : List Change) (o : Option Change) (e : HeldChange)
    → option_map (λ (c : Change). entry_of policy (n + i) c later) o ≡ Some e → e.number ≡ n + i
number_at policy n i later None e h = cc
number_at policy n i later (Some c) e h = sym (ap (λ (x : HeldChange). x.number) (same_Some _ e h))

pub all-numbered : (policy : HistoryQos) (n : ℕ) (cs : List Change) → AreNumbered n (all_from policy n cs)
all-numbered policy n cs i e at =
    number_at policy n i (drop (suc i) cs) (slice_get cs i) e (sym (all-at policy n cs i) ∙ at)

abbrev pub at_number : ℕ → HeldChange → Bool
at_number m e = e.number == m

-- a test passes the element, if there is one
abbrev pub passing : {X : Type 0} → (X → Bool) → Option X → Option X
passing p None = None
passing p (Some e) = if p e then Some e else None

skip : (b here : Bool) (m : ℕ) (x : HeldChange) (rest : List HeldChange) → at_number m x ≡ false
    → find (at_number m) (cond b (x ∷ rest) rest) ≡ find (at_number m) rest
skip true here m x rest other = ap (λ (v : Bool). cond v (Some x) (find (at_number m) rest)) other
skip false here m x rest other = refl

-- no number below the first is found
pub find-below : (p : HeldChange → Bool) (n m : ℕ) (es : List HeldChange) → AreNumbered n es → m < n
    → find (at_number m) (filter p es) ≡ None
find-below p n m [] h lt = refl
find-below p n m (x ∷ es) h lt =
    let is = numbered-head n x es h in
    let other : at_number m x ≡ false = grind (arith, nat_tests, is) in
    skip (p x) true m x (filter p es) other ∙ find-below p (n + 1) m es (numbered-tail n x es h) (omega arith)

found_first : (b : Bool) (m : ℕ) (x : HeldChange) (rest : List HeldChange) → at_number m x ≡ true
    → find (at_number m) rest ≡ None
    → find (at_number m) (cond b (x ∷ rest) rest) ≡ (if b then Some x else None)
found_first true m x rest here none = ap (λ (v : Bool). cond v (Some x) (find (at_number m) rest)) here
found_first false m x rest here none = none

-- what is found at a number is the change there, if it passes the test
pub find-at : (p : HeldChange → Bool) (n m i : ℕ) (es : List HeldChange) → AreNumbered n es → m ≡ n + i
    → find (at_number m) (filter p es) ≡ passing p (slice_get es i)
find-at p n m i [] h at = refl
find-at p n m zero (x ∷ es) h at =
    let is = numbered-head n x es h in
    let here : at_number m x ≡ true = grind (arith, nat_tests, is) in
    found_first (p x) m x (filter p es) here (find-below p (n + 1) m es (numbered-tail n x es h) (omega arith))
find-at p n m (suc i) (x ∷ es) h at =
    let is = numbered-head n x es h in
    let other : at_number m x ≡ false = grind (arith, nat_tests, is) in
    skip (p x) true m x (filter p es) other ∙ find-at p (n + 1) m i es (numbered-tail n x es h) (omega arith)

abbrev pub one_if : Bool → ℕ
one_if b = cond b 1 0

pub count_cons : {X : Type 0} (p : X → Bool) (x : X) (xs : List X) → count_by p (x ∷ xs) ≡ one_if (p x) + count_by p xs
count_cons p x xs = sum_by-cons (λ y. one_if (p y)) x xs

-- a test of numbers from one on says what a test of the changes there says
abbrev pub Agree : ℕ → (ℕ → Bool) → (HeldChange → Bool) → List HeldChange → Type 0
Agree n q p es = (i : ℕ) (e : HeldChange) → slice_get es i ≡ Some e → q (n + i) ≡ p e

agree-head : (n : ℕ) (q : ℕ → Bool) (p : HeldChange → Bool) (x : HeldChange) (es : List HeldChange)
    → Agree n q p (x ∷ es) → q n ≡ p x
agree-head n q p x es h = let here : n ≡ n + 0 = omega arith in ap q here ∙ h 0 x refl

agree-tail : (n : ℕ) (q : ℕ → Bool) (p : HeldChange → Bool) (x : HeldChange) (es : List HeldChange)
    → Agree n q p (x ∷ es) → Agree (n + 1) q p es
agree-tail n q p x es h i e at = let here : n + 1 + i ≡ n + suc i = omega arith in ap q here ∙ h (suc i) e at

-- so many numbers pass as changes do
pub counted : (q : ℕ → Bool) (p : HeldChange → Bool) (es : List HeldChange) (n : ℕ) → Agree n q p es
    → count_by q (numbers_from n (length es)) ≡ count_by p es
counted q p [] n h = refl
counted q p (e ∷ es) n h =
    let rest = counted q p es (n + 1) (agree-tail n q p e es h) in
    let count = ap one_if (agree-head n q p e es h) in
    omega (arith, count, rest, count_cons q n (numbers_from (n + 1) (length es)), count_cons p e es)

-- the first number that passes is that of the first change that does
pub first-number : (q : ℕ → Bool) (p : HeldChange → Bool) (es : List HeldChange) (n : ℕ) → Agree n q p es
    → AreNumbered n es
    → find q (numbers_from n (length es)) ≡ option_map (λ (e : HeldChange). e.number) (slice_get (filter p es) 0)
first-number q p [] n h numbered = refl
first-number q p (x ∷ es) n h numbered =
    first (p x) (agree-head n q p x es h) (numbered-head n x es numbered)
    (first-number q p es (n + 1) (agree-tail n q p x es h) (numbered-tail n x es numbered))
  where
    first : (b : Bool) → q n ≡ b → x.number ≡ n
        → find q (numbers_from (n + 1) (length es))
        ≡ option_map (λ (e : HeldChange). e.number) (slice_get (filter p es) 0)
        → cond (q n) (Some n) (find q (numbers_from (n + 1) (length es)))
        ≡ option_map (λ (e : HeldChange). e.number) (slice_get (cond b (x ∷ filter p es) (filter p es)) 0)
    first true is number rest = ap (λ (v : Bool). cond v (Some n) (find q (numbers_from (n + 1) (length es)))) is
        ∙ ap (λ (k : ℕ). Some k) (sym number)
    first false is number rest = ap (λ (v : Bool). cond v (Some n) (find q (numbers_from (n + 1) (length es)))) is
        ∙ rest
