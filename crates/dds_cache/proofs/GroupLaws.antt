-- A list that is sorted by a number is its groups, one number after another.
use Rattle.std.proofs.Common.{◌≡◌, ℕ, ◌+◌, ◌≤◌, ◌<◌, List, [], ◌∷◌, ◌++◌, get_or, filter, Bool, false, ◌==◌, sym, ap, ◌∙◌, refl, cond, arith, zero, suc, ⊎_elim}
use Rattle.std.specs.List.{All, flat_map, range_with_len}
use Rattle.std.specs.List.Sorted.{IsNonDecreasingBy}
use Rattle.std.proofs.lemmas.Bool.{cases_Bool, eqb-true, eqb-false}
use Rattle.std.proofs.lemmas.List.Elements.{All-head, All-tail}
use Rattle.std.proofs.lemmas.List.Concat.{flat_map-cons}

-- those whose number is m
abbrev pub group : {X : Type 0} → (X → ℕ) → List X → ℕ → List X
group key xs m = filter (λ x. key x == m) xs

-- one group after another, from a on
abbrev pub groups : {X : Type 0} → (X → ℕ) → List X → ℕ → ℕ → List X
groups key xs a n = flat_map (group key xs) (range_with_len a n)

pub unequal : (a b : ℕ) → (a ≡ b → ⊥) → (a == b) ≡ false
unequal a b differ = ⊎_elim (λ same. absurd (differ (eqb-true a b same))) (λ other. other) (cases_Bool (a == b))

pub flat_map-same : {A X : Type 0} (f g : A → List X) (ms : List A) → ((m : A) → f m ≡ g m)
    → flat_map f ms ≡ flat_map g ms
flat_map-same f g [] same = refl
flat_map-same {X = X} f g (m ∷ ms) same =
    flat_map-cons f m ms ∙ (ap (λ (xs : List X). xs ++ flat_map f ms) (same m)
    ∙ (ap (λ (xs : List X). g m ++ xs) (flat_map-same f g ms same) ∙ sym (flat_map-cons g m ms)))

flat_map-from : {X : Type 0} (f g : ℕ → List X) (a n : ℕ) → ((m : ℕ) → a ≤ m → f m ≡ g m)
    → flat_map f (range_with_len a n) ≡ flat_map g (range_with_len a n)
flat_map-from f g a zero same = refl
flat_map-from {X = X} f g a (suc n) same =
    flat_map-cons f a (range_with_len (a + 1) n)
    ∙ (ap (λ (xs : List X). xs ++ flat_map f (range_with_len (a + 1) n)) (same a (omega arith))
    ∙ (ap (λ (xs : List X). g a ++ xs) (flat_map-from f g (a + 1) n (λ m above. same m (omega (arith, above))))
    ∙ sym (flat_map-cons g a (range_with_len (a + 1) n))))

-- an element of a smaller number is in no group
group-skip : {X : Type 0} (key : X → ℕ) (x : X) (xs : List X) (a n : ℕ) → key x < a
    → groups key (x ∷ xs) a n ≡ groups key xs a n
group-skip {X = X} key x xs a n below =
    flat_map-from (group key (x ∷ xs)) (group key xs) a n
    (λ m above. ap (λ (b : Bool). cond b (x ∷ group key xs m) (group key xs m))
    (unequal (key x) m (λ same. omega (arith, same, below, above))))

pub filter-none : {X : Type 0} (key : X → ℕ) (xs : List X) (a : ℕ) → All (λ y. a < key y) xs → group key xs a ≡ []
filter-none key [] a all = refl
filter-none {X = X} key (x ∷ xs) a all =
    ap (λ (b : Bool). cond b (x ∷ group key xs a) (group key xs a))
    (unequal (key x) a (λ same. let above : a
    < key x = All-head (λ (y : X). a < key y) x xs all in omega (arith, same, above)))
    ∙ filter-none key xs a (All-tail (λ (y : X). a < key y) x xs all)

-- the first of a sorted list is the first of its groups
group-head : {X : Type 0} (key : X → ℕ) (x : X) (xs : List X) (a n : ℕ) → a ≤ key x → key x < a + n
    → All (λ y. key x ≤ key y) xs → groups key (x ∷ xs) a n ≡ x ∷ groups key xs a n
group-head key x xs a zero low high all = absurd (omega (arith, low, high))
group-head {X = X} key x xs a (suc n) low high all =
    flat_map-cons (group key (x ∷ xs)) a (range_with_len (a + 1) n)
    ∙ (⊎_elim
    (λ here. let at : key x ≡ a = eqb-true (key x) a here in
    ap (λ (b : Bool). cond b (x ∷ group key xs a) (group key xs a) ++ groups key (x ∷ xs) (a + 1) n) here
    ∙ ap (λ (ys : List X). x ∷ (group key xs a ++ ys)) (group-skip key x xs (a + 1) n (omega (arith, at))))
    (λ later. let above : a < key x = omega (arith, low, eqb-false (key x) a later) in
    let none : group key xs a ≡ [] =
    filter-none key xs a (λ k d within. let more : key x
    ≤ key (get_or xs k d) = all k d within in omega (arith, above, more)) in
    ap (λ (b : Bool). cond b (x ∷ group key xs a) (group key xs a) ++ groups key (x ∷ xs) (a + 1) n) later
    ∙ (ap (λ (ys : List X). ys ++ groups key (x ∷ xs) (a + 1) n) none
    ∙ (group-head key x xs (a + 1) n (omega (arith, above)) (omega (arith, high)) all
    ∙ ap (λ (ys : List X). x ∷ (ys ++ groups key xs (a + 1) n)) (sym none))))
    (cases_Bool (key x == a))
    ∙ ap (λ (ys : List X). x ∷ ys) (sym (flat_map-cons (group key xs) a (range_with_len (a + 1) n))))

no-groups : {X : Type 0} (key : X → ℕ) (a n : ℕ) → groups key [] a n ≡ []
no-groups key a zero = refl
no-groups key a (suc n) = flat_map-cons (group key []) a (range_with_len (a + 1) n) ∙ no-groups key (a + 1) n

-- a sorted list is its groups
pub grouped : {X : Type 0} (key : X → ℕ) (xs : List X) (a n : ℕ) → IsNonDecreasingBy key xs
    → All (λ x. (a ≤ key x) × (key x < a + n)) xs → groups key xs a n ≡ xs
grouped key [] a n sorted all = no-groups key a n
grouped {X = X} key (x ∷ xs) a n sorted all =
    let bounds : (a ≤ key x) × (key x < a + n) = All-head (λ (y : X). (a ≤ key y) × (key y < a + n)) x xs all in
    group-head key x xs a n bounds.0 bounds.1 (λ k d within. sorted 0 (suc k) d (omega arith) (omega (arith, within)))
    ∙ ap (λ (ys : List X). x ∷ ys)
    (grouped key xs a n (λ i j d le within. sorted (suc i) (suc j) d (omega (arith, le)) (omega (arith, within)))
    (All-tail (λ (y : X). (a ≤ key y) × (key y < a + n)) x xs all))
