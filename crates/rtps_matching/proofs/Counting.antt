-- How many of a list pass a test.
use Rattle.std.proofs.Common.{◌≡◌, ◌∙◌, ℕ, ◌+◌, ◌≤◌, Bool, true, false, cond, List, [], ◌∷◌, ◌++◌, map, refl, sym, ap, subst, arith}
use Rattle.std.specs.Prelude.{◌||◌, filter}
use Rattle.std.specs.List.{count_by, list_any}
use Rattle.std.proofs.lemmas.List.Sums.{sum_by-append}
use Rattle.rtps_matching.proofs.Members.{count-cons}

pub count-append : {X : Type 0} (p : X → Bool) (xs ys : List X)
    → count_by p (xs ++ ys) ≡ count_by p xs + count_by p ys
count-append p xs ys = sum_by-append (λ x. cond (p x) 1 0) xs ys

pub few-filter : {X : Type 0} (p q : X → Bool) (xs : List X) → count_by p (filter q xs) ≤ count_by p xs
few-filter p q [] = omega arith
few-filter {X} p q (x ∷ xs) =
    subst (λ (n : ℕ). count_by p (filter q (x ∷ xs)) ≤ n) (sym (count-cons p x xs)) (by_test (few-filter p q xs) (q x))
  where
    by_test : count_by p (filter q xs) ≤ count_by p xs → (b : Bool)
        → count_by p (cond b (x ∷ filter q xs) (filter q xs)) ≤ (cond (p x) 1 0) + count_by p xs
    by_test rest true =
        subst (λ (n : ℕ). n ≤ (cond (p x) 1 0) + count_by p xs) (sym (count-cons p x (filter q xs)))
        (omega (arith, rest))
    by_test rest false = omega (arith, rest)

pub same-map : {X : Type 0} (p : X → Bool) (f : X → X) → ((x : X) → p (f x) ≡ p x) → (xs : List X)
    → count_by p (map f xs) ≡ count_by p xs
same-map p f same [] = refl
same-map p f same (x ∷ xs) =
    count-cons p (f x) (map f xs)
    ∙ (ap (λ (b : Bool). (cond b 1 0) + count_by p (map f xs)) (same x)
    ∙ (ap (λ (n : ℕ). (cond (p x) 1 0) + n) (same-map p f same xs) ∙ sym (count-cons p x xs)))

pub none-counted : {X : Type 0} (p : X → Bool) (xs : List X) → list_any p xs ≡ false → count_by p xs ≡ 0
none-counted p [] e = refl
none-counted {X} p (x ∷ xs) e = count-cons p x xs ∙ by_test (none-counted p xs) (p x) e
  where
    by_test : (list_any p xs ≡ false → count_by p xs ≡ 0) → (b : Bool) → (b || list_any p xs) ≡ false
        → (cond b 1 0) + count_by p xs ≡ 0
    by_test rest true m = absurd cc
    by_test rest false m = let none = rest m in omega (arith, none)
