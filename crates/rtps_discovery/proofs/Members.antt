-- The elements of lists that are made of others.
use Rattle.std.proofs.Common.{◌≡◌, ◌⊎◌, ◌∙◌, ℕ, zero, suc, ◌<◌, Bool, true, false, cond, List, [], ◌∷◌, ◌++◌, length, take, drop, map, filter_map, get_or, set, Contains, Option, Some, None, refl, sym, ap, subst, inl, inr, ⊎_elim, arith}
use Rattle.std.specs.Prelude.{filter, remove}
use Rattle.std.specs.List.{cons_option}
use Rattle.std.proofs.lemmas.List.{set_split, set-get_or}
use Rattle.std.proofs.lemmas.List.Elements.{Contains-append_left, Contains-append_right, Contains-append_cases}

pub nothing_in : {X : Type 0} (x : X) → Contains [] x → ⊥
nothing_in x c = let l = c.1 in omega (arith, l)

at_place : {X : Type 0} (y : X) (ys : List X) (x : X) (k : ℕ) → k < length (y ∷ ys) → get_or (y ∷ ys) k x ≡ x
    → (y ≡ x) ⊎ Contains ys x
at_place y ys x zero l e = inl e
at_place y ys x (suc k) l e = inr (k, omega (arith, l), e)

pub first_or_later : {X : Type 0} (y : X) (ys : List X) (x : X) → Contains (y ∷ ys) x → (y ≡ x) ⊎ Contains ys x
first_or_later y ys x c = at_place y ys x c.0 c.1 c.2

pub is_first : {X : Type 0} (y : X) (ys : List X) (x : X) → y ≡ x → Contains (y ∷ ys) x
is_first y ys x e = (0, omega arith, e)

pub is_later : {X : Type 0} (y : X) (ys : List X) (x : X) → Contains ys x → Contains (y ∷ ys) x
is_later y ys x c = Contains-append_right (y ∷ []) ys x c

pub into_map : {X Y : Type 0} (f : X → Y) (xs : List X) (x : X) → Contains xs x → Contains (map f xs) (f x)
into_map f [] x c = absurd (nothing_in x c)
into_map f (y ∷ ys) x c =
    ⊎_elim (λ e. is_first (f y) (map f ys) (f x) (ap f e)) (λ m. is_later (f y) (map f ys) (f x) (into_map f ys x m))
    (first_or_later y ys x c)

pub from_map : {X Y : Type 0} (f : X → Y) (xs : List X) (y : Y) → Contains (map f xs) y
    → (x : X) × Contains xs x × (f x ≡ y)
from_map f [] y c = absurd (nothing_in y c)
from_map f (x ∷ xs) y c =
    ⊎_elim (λ e. (x, is_first x xs x refl, e))
    (λ m. let found = from_map f xs y m in (found.0, is_later x xs found.0 found.1, found.2))
    (first_or_later (f x) (map f xs) y c)

pub into_filter : {X : Type 0} (p : X → Bool) (xs : List X) (x : X) → Contains xs x → p x ≡ true
    → Contains (filter p xs) x
into_filter p [] x c passes = absurd (nothing_in x c)
into_filter {X} p (y ∷ ys) x c passes =
    by_test (λ m. into_filter p ys x m passes) (p y) refl (first_or_later y ys x c)
  where
    by_test : (Contains ys x → Contains (filter p ys) x) → (b : Bool) → p y ≡ b → (y ≡ x) ⊎ Contains ys x
        → Contains (cond b (y ∷ filter p ys) (filter p ys)) x
    by_test rest true is (inl e) = is_first y (filter p ys) x e
    by_test rest true is (inr m) = is_later y (filter p ys) x (rest m)
    by_test rest false is (inl e) = let both : true ≡ false = sym passes ∙ (ap p (sym e) ∙ is) in absurd cc
    by_test rest false is (inr m) = rest m

pub from_filter : {X : Type 0} (p : X → Bool) (xs : List X) (x : X) → Contains (filter p xs) x → Contains xs x
from_filter p [] x c = absurd (nothing_in x c)
from_filter {X} p (y ∷ ys) x c = by_test (λ m. from_filter p ys x m) (p y) c
  where
    by_test : (Contains (filter p ys) x → Contains ys x) → (b : Bool)
        → Contains (cond b (y ∷ filter p ys) (filter p ys)) x → Contains (y ∷ ys) x
    by_test rest true c =
        ⊎_elim (λ e. is_first y ys x e) (λ m. is_later y ys x (rest m)) (first_or_later y (filter p ys) x c)
    by_test rest false c = is_later y ys x (rest c)

pub from_filter_map : {X Y : Type 0} (f : X → Option Y) (xs : List X) (y : Y) → Contains (filter_map f xs) y
    → (x : X) × Contains xs x × (f x ≡ Some y)
from_filter_map f [] y c = absurd (nothing_in y c)
from_filter_map {X} {Y} f (x ∷ xs) y c = by_value (λ m. from_filter_map f xs y m) (f x) refl c
  where
    by_value : (Contains (filter_map f xs) y → (z : X) × Contains xs z × (f z ≡ Some y)) → (o : Option Y) → f x ≡ o
        → Contains (cons_option o (filter_map f xs)) y → (z : X) × Contains (x ∷ xs) z × (f z ≡ Some y)
    by_value rest None is c = let found = rest c in (found.0, is_later x xs found.0 found.1, found.2)
    by_value rest (Some z) is c =
        ⊎_elim (λ e. (x, is_first x xs x refl, is ∙ ap (λ (v : Y). Some v) e))
        (λ m. let found = rest m in (found.0, is_later x xs found.0 found.1, found.2))
        (first_or_later z (filter_map f xs) y c)

-- ---- around a place

pub parts_at : {X : Type 0} (xs : List X) (i : ℕ) (d : X) → i < length xs
    → xs ≡ take i xs ++ get_or xs i d ∷ drop (suc i) xs
parts_at xs i d l = sym (set-get_or xs i d) ∙ set_split xs i (get_or xs i d) l

around : {X : Type 0} (a : List X) (y : X) (b : List X) (x : X) → Contains (a ++ y ∷ b) x
    → (y ≡ x) ⊎ Contains (a ++ b) x
around a y b x c =
    ⊎_elim (λ m. inr (Contains-append_left a b x m))
    (λ m. ⊎_elim (λ e. inl e) (λ n. inr (Contains-append_right a b x n)) (first_or_later y b x m))
    (Contains-append_cases a (y ∷ b) x c)

beside : {X : Type 0} (a : List X) (y : X) (b : List X) (x : X) → Contains (a ++ b) x → Contains (a ++ y ∷ b) x
beside a y b x c =
    ⊎_elim (λ m. Contains-append_left a (y ∷ b) x m) (λ m. Contains-append_right a (y ∷ b) x (is_later y b x m))
    (Contains-append_cases a b x c)

pub into_removed : {X : Type 0} (xs : List X) (i : ℕ) (d x : X) → i < length xs → Contains xs x
    → (get_or xs i d ≡ x) ⊎ Contains (remove xs i) x
into_removed xs i d x l c =
    around (take i xs) (get_or xs i d) (drop (suc i) xs) x (subst (λ (z : List _). Contains z x) (parts_at xs i d l) c)

pub from_removed : {X : Type 0} (xs : List X) (i : ℕ) (x : X) → i < length xs → Contains (remove xs i) x → Contains xs x
from_removed xs i x l c =
    subst (λ (z : List _). Contains z x) (sym (parts_at xs i x l))
    (beside (take i xs) (get_or xs i x) (drop (suc i) xs) x c)

pub into_set : {X : Type 0} (xs : List X) (i : ℕ) (y d x : X) → i < length xs → Contains xs x
    → (get_or xs i d ≡ x) ⊎ Contains (set xs i y) x
into_set xs i y d x l c =
    ⊎_elim (λ e. inl e)
    (λ m. inr (subst (λ (z : List _). Contains z x) (sym (set_split xs i y l)) (beside (take i xs) y (drop (suc i) xs) x m)))
    (into_removed xs i d x l c)

pub from_set : {X : Type 0} (xs : List X) (i : ℕ) (y x : X) → i < length xs → Contains (set xs i y) x
    → (y ≡ x) ⊎ Contains xs x
from_set xs i y x l c =
    ⊎_elim (λ e. inl e) (λ m. inr (from_removed xs i x l m))
    (around (take i xs) y (drop (suc i) xs) x (subst (λ (z : List _). Contains z x) (set_split xs i y l) c))
