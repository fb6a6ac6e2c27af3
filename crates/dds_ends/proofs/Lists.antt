-- Lists with one element changed, by what is read of them.
use Rattle.std.proofs.Common.{◌≡◌, ℕ, zero, suc, ◌+◌, ◌<◌, ◌≤◌, Bool, true, false, ◌||◌, List, [], ◌∷◌, ◌++◌, Some, None, map, set, take, drop, length, get_or, slice_get, refl, subst, ap, sym, ◌∙◌, arith}
use Rattle.std.specs.List.{list_any}
use Rattle.std.proofs.lemmas.Option.{same_Some}
use Rattle.std.proofs.lemmas.List.{set-get_or}
use Rattle.std.proofs.lemmas.Option.{get_or_from_slice_get}

-- what holds of each element and of its partner holds after both were changed
pub each_set : {X Y : Type 0} (R : X → Y → Type 0) (xs : List X) (ys : List Y) (i : ℕ) (x : X) (y d : Y)
    → length ys ≡ length xs → ((j : ℕ) (k : X) → slice_get xs j ≡ Some k → R k (get_or ys j d)) → R x y
    → (j : ℕ) (k : X) → slice_get (set xs i x) j ≡ Some k → R k (get_or (set ys i y) j d)
each_set R [] ys i x y d count each new j k at = absurd cc
each_set R (a ∷ xs) [] i x y d count each new j k at = absurd (omega (arith, count))
each_set R (a ∷ xs) (b ∷ ys) zero x y d count each new zero k at = subst (λ z. R z y) (same_Some x k at) new
each_set R (a ∷ xs) (b ∷ ys) zero x y d count each new (suc j) k at = each (suc j) k at
each_set R (a ∷ xs) (b ∷ ys) (suc i) x y d count each new zero k at = each zero k at
each_set R (a ∷ xs) (b ∷ ys) (suc i) x y d count each new (suc j) k at =
    each_set R xs ys i x y d (omega (arith, count)) (λ n z h. each (suc n) z h) new j k at

-- the same of a relation that asks for the index
pub each_set_at : {X Y Z : Type 0} (R : ℕ → X → Y → Z → Type 0) (xs : List X) (ys : List Y) (zs : List Z) (i : ℕ)
    (x : X) (y d : Y) (z e : Z) → length ys ≡ length xs → length zs ≡ length xs
    → ((j : ℕ) (k : X) → (j ≡ i → ⊥) → slice_get xs j ≡ Some k → R j k (get_or ys j d) (get_or zs j e)) → R i x y z
    → (j : ℕ) (k : X) → slice_get (set xs i x) j ≡ Some k → R j k (get_or (set ys i y) j d) (get_or (set zs i z) j e)
each_set_at R [] ys zs i x y d z e c1 c2 each new j k at = absurd cc
each_set_at R (a ∷ xs) [] zs i x y d z e c1 c2 each new j k at = absurd (omega (arith, c1))
each_set_at R (a ∷ xs) (b ∷ ys) [] i x y d z e c1 c2 each new j k at = absurd (omega (arith, c2))
each_set_at R (a ∷ xs) (b ∷ ys) (c ∷ zs) zero x y d z e c1 c2 each new zero k at =
    subst (λ v. R zero v y z) (same_Some x k at) new
each_set_at R (a ∷ xs) (b ∷ ys) (c ∷ zs) zero x y d z e c1 c2 each new (suc j) k at =
    each (suc j) k (λ s. omega (arith, s)) at
each_set_at R (a ∷ xs) (b ∷ ys) (c ∷ zs) (suc i) x y d z e c1 c2 each new zero k at =
    each zero k (λ s. omega (arith, s)) at
each_set_at R (a ∷ xs) (b ∷ ys) (c ∷ zs) (suc i) x y d z e c1 c2 each new (suc j) k at =
    each_set_at (λ n. R (suc n)) xs ys zs i x y d z e (omega (arith, c1)) (omega (arith, c2))
    (λ n v f h. each (suc n) v (λ s. f (omega (arith, s))) h) new j k at

-- an element that looks as before changes nothing that is seen
pub map-set_same : {X Y : Type 0} (f : X → Y) (xs : List X) (i : ℕ) (x y : X) → slice_get xs i ≡ Some x → f y ≡ f x
    → map f (set xs i y) ≡ map f xs
map-set_same f [] i x y at same = refl
map-set_same f (a ∷ xs) zero x y at same = ap (λ z. z ∷ map f xs) (same ∙ ap f (sym (same_Some a x at)))
map-set_same f (a ∷ xs) (suc i) x y at same = ap (λ zs. f a ∷ zs) (map-set_same f xs i x y at same)

pub drop_set : {X : Type 0} (xs : List X) (i : ℕ) (x : X) → drop (suc i) (set xs i x) ≡ drop (suc i) xs
drop_set [] i x = refl
drop_set (a ∷ xs) zero x = refl
drop_set (a ∷ xs) (suc i) x = drop_set xs i x

-- the element of a mapped list is that of one
pub get-map : {X Y : Type 0} (f : X → Y) (xs : List X) (i : ℕ) (y : Y) → slice_get (map f xs) i ≡ Some y
    → (x : X) × (slice_get xs i ≡ Some x) × (f x ≡ y)
get-map f [] i y at = absurd cc
get-map f (a ∷ xs) zero y at = (a, refl, same_Some (f a) y at)
get-map f (a ∷ xs) (suc i) y at = get-map f xs i y at

pub map-get : {X Y : Type 0} (f : X → Y) (xs : List X) (i : ℕ) (x : X) → slice_get xs i ≡ Some x
    → slice_get (map f xs) i ≡ Some (f x)
map-get f [] i x at = absurd cc
map-get f (a ∷ xs) zero x at = ap (λ z. Some (f z)) (same_Some a x at)
map-get f (a ∷ xs) (suc i) x at = map-get f xs i x at

-- the element of an index that lies within
pub element : {X : Type 0} (xs : List X) (i : ℕ) → i < length xs → (x : X) × (slice_get xs i ≡ Some x)
element [] i lt = absurd (omega (arith, lt))
element (x ∷ xs) zero lt = (x, refl)
element (x ∷ xs) (suc i) lt = element xs i (omega (arith, lt))

pub get-within : {X : Type 0} (xs : List X) (i : ℕ) (x : X) → slice_get xs i ≡ Some x → i < length xs
get-within [] i x at = absurd cc
get-within (a ∷ xs) zero x at = omega arith
get-within (a ∷ xs) (suc i) x at = let later = get-within xs i x at in omega (arith, later)

-- past the end of a list there is none
pub past_end : {X : Type 0} (xs : List X) (n : ℕ) (none : X) → length xs ≤ n → get_or xs n none ≡ none
past_end [] n none past = refl
past_end (x ∷ xs) zero none past = absurd (omega (arith, past))
past_end (x ∷ xs) (suc n) none past = past_end xs n none (omega (arith, past))

-- nothing is left behind the last element
pub drop_all : {X : Type 0} (xs : List X) → drop (length xs) xs ≡ []
drop_all [] = refl
drop_all (x ∷ xs) = drop_all xs

pub drop_end : {X : Type 0} (xs : List X) (n : ℕ) → length xs ≡ n → drop n xs ≡ []
drop_end xs n is = subst (λ (m : ℕ). drop m xs ≡ []) is (drop_all xs)

-- the first of what is left from an index on
pub drop_next : {X : Type 0} (xs : List X) (i : ℕ) (x : X) → slice_get xs i ≡ Some x
    → drop i xs ≡ x ∷ drop (i + 1) xs
drop_next xs i x at = subst (λ (n : ℕ). drop i xs ≡ x ∷ drop n xs) (next i) (later xs i x at)
  where
    next : (n : ℕ) → suc n ≡ n + 1
    next n = omega arith

    later : {X : Type 0} (xs : List X) (i : ℕ) (x : X) → slice_get xs i ≡ Some x → drop i xs ≡ x ∷ drop (suc i) xs
    later [] i x at = absurd cc
    later (a ∷ xs) zero x at = ap (λ z. z ∷ xs) (same_Some a x at)
    later (a ∷ xs) (suc i) x at = later xs i x at

-- the element at an index from which on two lists are one
pub left_at : {X : Type 0} (xs ys : List X) (i : ℕ) (x : X) → drop i xs ≡ drop i ys → slice_get ys i ≡ Some x
    → slice_get xs i ≡ Some x
left_at xs ys zero x same at = ap (λ zs. slice_get zs 0) same ∙ at
left_at [] [] (suc i) x same at = at
left_at [] (y ∷ ys) (suc i) x same at = nothing i ys same at
  where
    nothing : {X : Type 0} {x : X} (i : ℕ) (ys : List X) → [] ≡ drop i ys → slice_get ys i ≡ Some x → None ≡ Some x
    nothing zero [] same at = at
    nothing zero (y ∷ ys) same at = absurd cc
    nothing (suc i) [] same at = at
    nothing (suc i) (y ∷ ys) same at = nothing i ys same at
left_at (x' ∷ xs) [] (suc i) x same at = absurd cc
left_at (x' ∷ xs) (y ∷ ys) (suc i) x same at = left_at xs ys i x same at

pub left_more : {X : Type 0} (xs ys : List X) (i : ℕ) → drop i xs ≡ drop i ys → drop (suc i) xs ≡ drop (suc i) ys
left_more xs ys i same = sym (one_more i xs) ∙ (ap (λ zs. drop 1 zs) same ∙ one_more i ys)
  where
    one_more : {X : Type 0} (i : ℕ) (xs : List X) → drop 1 (drop i xs) ≡ drop (suc i) xs
    one_more zero xs = refl
    one_more (suc i) [] = refl
    one_more (suc i) (x ∷ xs) = one_more i xs

-- a slice of all elements, written back
pub written_back : {X : Type 0} (new old : List X) (len : ℕ) → length new ≡ length old → len ≡ length old
    → take len (new ++ drop (length new) old) ≡ new
written_back new old len count is =
    ap (λ (n : ℕ). take len (new ++ drop n old)) count
    ∙ (ap (λ zs. take len (new ++ zs)) (drop_all old)
    ∙ (ap (λ (n : ℕ). take n (new ++ [])) (is ∙ sym count) ∙ take_first new))
  where
    take_first : {X : Type 0} (xs : List X) → take (length xs) (xs ++ []) ≡ xs
    take_first [] = refl
    take_first (x ∷ xs) = ap (λ zs. x ∷ zs) (take_first xs)

-- what was put back as it was changes nothing
pub set_back : {X : Type 0} (xs : List X) (i : ℕ) (x y : X) → slice_get xs i ≡ Some x → y ≡ x → set xs i y ≡ xs
set_back {X = X} xs i x y at same =
    ap (λ (z : X). set xs i z) (same ∙ sym (get_or_from_slice_get xs i x x at)) ∙ set-get_or xs i x

-- what is so of some element, or is another thing that is
pub any_either : {X : Type 0} (f g : X → Bool) (xs : List X)
    → (list_any f xs || list_any g xs) ≡ list_any (λ x. f x || g x) xs
any_either f g [] = refl
any_either f g (x ∷ xs) =
    swap (f x) (list_any f xs) (g x) (list_any g xs) ∙ ap (λ (b : Bool). (f x || g x) || b) (any_either f g xs)
  where
    swap : (a as' b bs : Bool) → ((a || as') || (b || bs)) ≡ ((a || b) || (as' || bs))
    swap true as' b bs = refl
    swap false true true bs = refl
    swap false true false true = refl
    swap false true false false = refl
    swap false false b bs = refl
