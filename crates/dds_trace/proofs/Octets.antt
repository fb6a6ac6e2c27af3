-- A list of octets among others, by a test, and once there is one more.
use Rattle.std.proofs.Common.{◌≡◌, ℕ, zero, suc, ◌+◌, ◌<◌, Bool, true, false, not, List, [], ◌∷◌, map, length, get_or, Some, Contains, ◌↔◌, ◌⊎◌, ◌||◌, inl, inr, ⊎_elim, refl, sym, ap, ◌∙◌, subst, arith, nat_eq}
use Rattle.std.specs.Prelude.{MatchBool}
use Rattle.std.specs.Cmp.Lexicographic.{pointwise, nat_list_eq_equiv, same_text}
use Rattle.std.specs.List.{list_any}
use Rattle.std.specs.List.Sorted.{IsPermutation}
use Rattle.std.proofs.lemmas.List.Sorted.{Contains-permutation, IsPermutation-map, IsPermutation-sym}
use Rattle.std.proofs.lemmas.Option.{get_or_from_slice_get, slice_get-get_or}
use Rattle.std.proofs.lemmas.Map.Views.{Contains-from_any, list_any-from_Contains}

same_any : {K X : Type 0} (f : K → X) (p : X → Bool) (ks : List K) → list_any (λ k. p (f k)) ks ≡ list_any p (map f ks)
same_any f p [] = refl
same_any f p (k ∷ ks) = ap (λ b. p (f k) || b) (same_any f p ks)

-- a test finds the octets exactly if they are there
pub found : {K : Type 0} (f : K → List ℕ) (ks : List K) (q : List ℕ)
    → (list_any (λ k. pointwise nat_eq q (f k)) ks ≡ true) ↔ Contains (map f ks) q
found f ks q = (
  λ h. Contains-from_any (λ x y h. same_text x y (sym h)) q (map f ks) (sym (same_any f (pointwise nat_eq q) ks) ∙ h),
  λ h. same_any f (pointwise nat_eq q) ks ∙ list_any-from_Contains nat_list_eq_equiv q (map f ks) h,
)

below_or_at : (k i : ℕ) → k < i + 1 → (k < i) ⊎ (k ≡ i)
below_or_at k i lt = grind (arith, lt)

not_false : (b : Bool) → false ≡ not b → b ≡ true
not_false true h = refl
not_false false h = h

cons_cases : {X : Type 0} (y : X) (ys : List X) (q : X) → Contains (y ∷ ys) q → Contains ys q ⊎ (q ≡ y)
cons_cases y ys q (zero, lt, e) = inr (sym e)
cons_cases y ys q (suc k, lt, e) = inl (k, omega (arith, lt), e)

here : {X : Type 0} (y : X) (ys : List X) (q : X) → q ≡ y → Contains (y ∷ ys) q
here y ys q e = (zero, omega arith, sym e)

there : {X : Type 0} (y : X) (ys : List X) (q : X) → Contains ys q → Contains (y ∷ ys) q
there y ys q (k, lt, e) = (suc k, omega (arith, lt), e)

-- what a set contains once a key was put into it
pub put : {K : Type 0} (f : K → List ℕ) (old new : List K) (k : K) (added : Bool)
    → added ≡ not (list_any (λ y. pointwise nat_eq (f k) (f y)) old)
    → MatchBool added (IsPermutation (k ∷ old) new) (new ≡ old)
    → (q : List ℕ) → Contains (map f new) q ↔ (Contains (map f old) q ⊎ (q ≡ f k))
put f old new k true is permuted q =
    let moved : IsPermutation (f k ∷ map f old) (map f new) = IsPermutation-map f (k ∷ old) new permuted in (
      λ h. cons_cases (f k) (map f old) q (Contains-permutation (map f new) (f k ∷ map f old) q (IsPermutation-sym (f k ∷ map f old) (map f new) moved) h),
      λ h. Contains-permutation (f k ∷ map f old) (map f new) q moved
          (⊎_elim (λ l. there (f k) (map f old) q l) (λ r. here (f k) (map f old) q r) h),
    )
put {K = K} f old new k false is same q =
    let was : list_any (λ y. pointwise nat_eq (f k) (f y)) old ≡ true =
    not_false (list_any (λ y. pointwise nat_eq (f k) (f y)) old) is in
    let at : Contains (map f old) (f k) = (found f old (f k)).0 was in
    let P : List K → Type 0 = λ ks. Contains (map f ks) q in (
      λ h. inl (subst P same h),
      λ h. subst P (sym same) (⊎_elim (λ l. l) (λ r. subst (λ x. Contains (map f old) x) (sym r) at) h),
    )

-- one of the first elements has it
abbrev pub AnyBelow : {X : Type 0} → (X → Type 0) → ℕ → List X → Type 0
AnyBelow {X} P i xs = (k : ℕ) × (x : X) × (k < i) × (k < length xs) × (get_or xs k x ≡ x) × P x

-- one element more
pub any_more : {X : Type 0} (P : X → Type 0) (i : ℕ) (xs : List X) (x : X) → i < length xs → get_or xs i x ≡ x
    → (AnyBelow P i xs ⊎ P x) ↔ AnyBelow P (i + 1) xs
any_more {X = X} P i xs x within is = (
  λ h. ⊎_elim (λ l. (l.0, l.1, (let lt = l.2 in omega (arith, lt)), l.3, l.4, l.5)) (λ p. (i, x, omega arith, within, is, p)) h,
  λ h. ⊎_elim (λ lt. inl (h.0, h.1, lt, h.3, h.4, h.5))
      (λ same. inr (subst P (sym (
      sym (get_or_from_slice_get xs i x h.1 (slice_get-get_or xs i x within ∙ ap Some is))
      ∙ ap (λ (k : ℕ). get_or xs k h.1) (sym same)
      ∙ h.4)) h.5))
      (below_or_at h.0 i h.2),
)
