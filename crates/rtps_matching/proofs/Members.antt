-- More of the elements of lists that are made of others.
use Rattle.std.proofs.Common.{◌≡◌, ◌⊎◌, ◌∙◌, ℕ, ◌+◌, ◌≤◌, subst, Bool, true, false, cond, List, [], ◌∷◌, ◌++◌, Contains, Option, Some, None, refl, sym, ap, inl, inr, ⊎_elim, arith, filter_map}
use Rattle.std.specs.Prelude.{◌||◌, filter, flat_map}
use Rattle.std.specs.List.{cons_option, count_by, list_any}
use Rattle.std.proofs.lemmas.List.Sums.{sum_by-cons}
use Rattle.std.proofs.lemmas.List.Elements.{Contains-append_left, Contains-append_right, Contains-append_cases}
use Rattle.rtps_discovery.proofs.Members.{first_or_later, is_first, is_later, nothing_in}

pub into_filter_map : {X Y : Type 0} (f : X → Option Y) (xs : List X) (x : X) (y : Y) → Contains xs x → f x ≡ Some y
    → Contains (filter_map f xs) y
into_filter_map f [] x y c is = absurd (nothing_in x c)
into_filter_map {X} {Y} f (z ∷ zs) x y c is =
    by_value (λ m. into_filter_map f zs x y m is) (f z) refl (first_or_later z zs x c)
  where
    by_value : (Contains zs x → Contains (filter_map f zs) y) → (o : Option Y) → f z ≡ o → (z ≡ x) ⊎ Contains zs x
        → Contains (cons_option o (filter_map f zs)) y
    by_value rest None made (inl e) = let no : None ≡ Some y = sym made ∙ (ap f e ∙ is) in absurd cc
    by_value rest None made (inr m) = rest m
    by_value rest (Some v) made (inl e) =
        let same : Some v ≡ Some y = sym made ∙ (ap f e ∙ is) in is_first v (filter_map f zs) y cc
    by_value rest (Some v) made (inr m) = is_later v (filter_map f zs) y (rest m)

pub into_flat_map : {X Y : Type 0} (f : X → List Y) (xs : List X) (x : X) (y : Y) → Contains xs x → Contains (f x) y
    → Contains (flat_map f xs) y
into_flat_map f [] x y c m = absurd (nothing_in x c)
into_flat_map {X} {Y} f (z ∷ zs) x y c m = by_place (λ l. into_flat_map f zs x y l m) (first_or_later z zs x c)
  where
    by_place : (Contains zs x → Contains (flat_map f zs) y) → (z ≡ x) ⊎ Contains zs x
        → Contains (f z ++ flat_map f zs) y
    by_place rest (inl e) =
        Contains-append_left (f z) (flat_map f zs) y (subst (λ (v : X). Contains (f v) y) (sym e) m)
    by_place rest (inr later) = Contains-append_right (f z) (flat_map f zs) y (rest later)

pub from_flat_map : {X Y : Type 0} (f : X → List Y) (xs : List X) (y : Y) → Contains (flat_map f xs) y
    → (x : X) × Contains xs x × Contains (f x) y
from_flat_map f [] y c = absurd (nothing_in y c)
from_flat_map {X} {Y} f (z ∷ zs) y c =
    ⊎_elim (λ m. (z, is_first z zs z refl, m))
    (λ m. let found = from_flat_map f zs y m in (found.0, is_later z zs found.0 found.1, found.2))
    (Contains-append_cases (f z) (flat_map f zs) y c)

-- what passes a test of what is filtered passes it
pub filter_passes : {X : Type 0} (p : X → Bool) (xs : List X) (x : X) → Contains (filter p xs) x → p x ≡ true
filter_passes p [] x c = absurd (nothing_in x c)
filter_passes {X} p (y ∷ ys) x c = by_test (λ m. filter_passes p ys x m) (p y) refl c
  where
    by_test : (Contains (filter p ys) x → p x ≡ true) → (b : Bool) → p y ≡ b → Contains (cond b (y ∷ filter p ys) (filter p ys)) x → p x ≡ true
    by_test rest true is m =
        ⊎_elim (λ (e : y ≡ x). ap p (sym e) ∙ is) (λ later. rest later) (first_or_later y (filter p ys) x m)
    by_test rest false is m = rest m

-- ---- one at most

pub count-cons : {X : Type 0} (p : X → Bool) (x : X) (xs : List X)
    → count_by p (x ∷ xs) ≡ (cond (p x) 1 0) + count_by p xs
count-cons p x xs = sum_by-cons (λ y. cond (p y) 1 0) x xs

pub counted : {X : Type 0} (p : X → Bool) (xs : List X) (x : X) → Contains xs x → p x ≡ true → 1 ≤ count_by p xs
counted p [] x c is = absurd (nothing_in x c)
counted {X} p (y ∷ ys) x c is =
    subst (λ (n : ℕ). 1 ≤ n) (sym (count-cons p y ys))
    (by_test (λ m. counted p ys x m is) (p y) refl (first_or_later y ys x c))
  where
    by_test : (Contains ys x → 1 ≤ count_by p ys) → (b : Bool) → p y ≡ b → (y ≡ x) ⊎ Contains ys x
        → 1 ≤ (cond b 1 0) + count_by p ys
    by_test rest true t place = omega arith
    by_test rest false t (inl e) = let no : true ≡ false = sym is ∙ (ap p (sym e) ∙ t) in absurd cc
    by_test rest false t (inr m) = let some = rest m in omega (arith, some)

-- of those that pass a test there is one at most
pub only_one : {X : Type 0} (p : X → Bool) (xs : List X) (x y : X) → count_by p xs ≤ 1 → Contains xs x → Contains xs y
    → p x ≡ true → p y ≡ true → x ≡ y
only_one p [] x y few c d is it = absurd (nothing_in x c)
only_one {X} p (z ∷ zs) x y few c d is it =
    by_test (λ l m n. only_one p zs x y l m n is it) (p z) refl
    (subst (λ (n : ℕ). n ≤ 1) (count-cons p z zs) few) (first_or_later z zs x c) (first_or_later z zs y d)
  where
    by_test : (count_by p zs ≤ 1 → Contains zs x → Contains zs y → x ≡ y) → (b : Bool) → p z ≡ b → (cond b 1 0) + count_by p zs ≤ 1 → (z ≡ x) ⊎ Contains zs x
        → (z ≡ y) ⊎ Contains zs y → x ≡ y
    by_test rest true t few (inl e) (inl f) = sym e ∙ f
    by_test rest true t few (inl e) (inr m) = let some = counted p zs y m it in absurd (omega (arith, some, few))
    by_test rest true t few (inr m) f = let some = counted p zs x m is in absurd (omega (arith, some, few))
    by_test rest false t few (inl e) f = let no : true ≡ false = sym is ∙ (ap p (sym e) ∙ t) in absurd cc
    by_test rest false t few (inr m) (inl f) = let no : true ≡ false = sym it ∙ (ap p (sym f) ∙ t) in absurd cc
    by_test rest false t few (inr m) (inr n) = rest (omega (arith, few)) m n

-- some element passes
pub any_of : {X : Type 0} (p : X → Bool) (xs : List X) (x : X) → Contains xs x → p x ≡ true → list_any p xs ≡ true
any_of p [] x c is = absurd (nothing_in x c)
any_of {X} p (y ∷ ys) x c is = by_place (λ m. any_of p ys x m is) (first_or_later y ys x c)
  where
    first : (b rest : Bool) → b ≡ true → (b || rest) ≡ true
    first true rest e = refl
    first false rest e = absurd cc

    later : (b rest : Bool) → rest ≡ true → (b || rest) ≡ true
    later true rest e = refl
    later false rest e = e

    by_place : (Contains ys x → list_any p ys ≡ true) → (y ≡ x) ⊎ Contains ys x → (p y || list_any p ys) ≡ true
    by_place rest (inl e) = first (p y) (list_any p ys) (ap p e ∙ is)
    by_place rest (inr m) = later (p y) (list_any p ys) (rest m)

pub any_weaker : {X : Type 0} (p q : X → Bool) (xs : List X) → ((x : X) → p x ≡ true → q x ≡ true)
    → list_any p xs ≡ true → list_any q xs ≡ true
any_weaker p q [] then e = absurd cc
any_weaker {X} p q (x ∷ xs) then e =
    by_test (λ r. any_weaker p q xs then r) (p x) refl e
  where
    first : (b rest : Bool) → b ≡ true → (b || rest) ≡ true
    first true rest t = refl
    first false rest t = absurd cc

    later : (b rest : Bool) → rest ≡ true → (b || rest) ≡ true
    later true rest t = refl
    later false rest t = t

    by_test : (list_any p xs ≡ true → list_any q xs ≡ true) → (b : Bool) → p x ≡ b → (b || list_any p xs) ≡ true
        → (q x || list_any q xs) ≡ true
    by_test rest true t m = first (q x) (list_any q xs) (then x t)
    by_test rest false t m = later (q x) (list_any q xs) (rest m)
