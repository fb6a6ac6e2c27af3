-- Where the last true place is.
use Rattle.std.proofs.Common.{◌≡◌, ℕ, zero, suc, ◌-◌, ◌<◌, ◌≤◌, Bool, true, false, List, [], ◌∷◌, ◌++◌, length, get_or, take, replicate, refl, inl, inr, sym, ap, ◌∙◌, arith}
use Rattle.std.specs.Prelude.{◌⊎◌}
use Rattle.std.proofs.lemmas.Bool.{cases_order}
use Rattle.rtps_sets.specs.NumberSet.{span, span_after}

cons_le : (b : Bool) (n m : ℕ) → n ≤ m → span_after b n ≤ suc m
cons_le true n m le = omega arith
cons_le false zero m le = omega arith
cons_le false (suc n) m le = omega arith

pub span_le : (xs : List Bool) → span xs ≤ length xs
span_le [] = omega arith
span_le (x ∷ xs) = cons_le x (span xs) (length xs) (span_le xs)

-- what stands past the span is false
front_false : (b : Bool) (n : ℕ) (bs : List Bool) → bs ≡ take n bs ++ replicate (length bs - n) false
    → b ∷ bs ≡ take (span_after b n) (b ∷ bs) ++ replicate (suc (length bs) - span_after b n) false
front_false true n bs e =
    let k : suc (length bs) - suc n ≡ length bs - n = omega arith in
    rw k (ap (λ (t : List Bool). true ∷ t) e)
front_false false zero bs e =
    let k : suc (length bs) - 0 ≡ suc (length bs) = omega arith in
    let j : length bs - 0 ≡ length bs = omega arith in
    rw k (ap (λ (t : List Bool). false ∷ t) (rw j at e))
front_false false (suc n) bs e =
    let k : suc (length bs) - suc (suc n) ≡ length bs - suc n = omega arith in
    rw k (ap (λ (t : List Bool). false ∷ t) e)

pub span_all : (xs : List Bool) → xs ≡ take (span xs) xs ++ replicate (length xs - span xs) false
span_all [] = refl
span_all (x ∷ xs) = front_false x (span xs) xs (span_all xs)

last_after : (b : Bool) (n : ℕ) (bs : List Bool) → (0 < n → get_or bs (n - 1) false ≡ true) → 0 < span_after b n
    → get_or (b ∷ bs) (span_after b n - 1) false ≡ true
last_after true zero bs below lt = refl
last_after true (suc n) bs below lt =
    let k : suc (suc n) - 1 ≡ suc n = omega arith in
    let j : suc n - 1 ≡ n = omega arith in
    rw k (rw j at (below (omega arith)))
last_after false zero bs below lt = absurd (omega arith)
last_after false (suc n) bs below lt =
    let k : suc (suc n) - 1 ≡ suc n = omega arith in
    let j : suc n - 1 ≡ n = omega arith in
    rw k (rw j at (below (omega arith)))

past_after : (b : Bool) (n : ℕ) (bs : List Bool) → ((k : ℕ) → n ≤ k → get_or bs k false ≡ false) → (k : ℕ)
    → span_after b n ≤ k → get_or (b ∷ bs) k false ≡ false
past_after true n bs past zero le = absurd (omega arith)
past_after true n bs past (suc k) le = past k (omega arith)
past_after false zero bs past zero le = refl
past_after false zero bs past (suc k) le = past k (omega arith)
past_after false (suc n) bs past zero le = absurd (omega arith)
past_after false (suc n) bs past (suc k) le = past k (omega arith)

-- the last place within the span is true
pub span_last : (xs : List Bool) → 0 < span xs → get_or xs (span xs - 1) false ≡ true
span_last [] lt = absurd (omega arith)
span_last (true ∷ xs) lt = last_after true (span xs) xs (span_last xs) lt
span_last (false ∷ xs) lt = last_after false (span xs) xs (span_last xs) lt

-- no place past the span is true
pub span_past : (xs : List Bool) (k : ℕ) → span xs ≤ k → get_or xs k false ≡ false
span_past [] k le = refl
span_past (true ∷ xs) k le = past_after true (span xs) xs (span_past xs) k le
span_past (false ∷ xs) k le = past_after false (span xs) xs (span_past xs) k le

-- no other number is the span
pub span_is : (xs : List Bool) (bits : ℕ) → (0 < bits → get_or xs (bits - 1) false ≡ true)
    → ((k : ℕ) → bits ≤ k → get_or xs k false ≡ false) → bits ≡ span xs
span_is xs bits last past = by (cases_order bits (span xs))
  where
    both : (b : Bool) → b ≡ true → b ≡ false → ⊥
    both b t f = let e : true ≡ false = sym t ∙ f in absurd (cc)

    by : (bits ≡ span xs) ⊎ ((bits < span xs) ⊎ (span xs < bits)) → bits ≡ span xs
    by (inl e) = e
    by (inr (inl lt)) =
        absurd (both (get_or xs (span xs - 1) false) (span_last xs (omega arith)) (past (span xs - 1) (omega arith)))
    by (inr (inr lt)) =
        absurd (both (get_or xs (bits - 1) false) (last (omega arith)) (span_past xs (bits - 1) (omega arith)))
