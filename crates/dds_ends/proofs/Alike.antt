-- Lists of which one element is another or is added, and a reader with more memory.
use Rattle.std.proofs.Common.{◌≡◌, ◌⊎◌, ℕ, zero, suc, ◌<◌, List, [], ◌∷◌, ◌++◌, Some, set, length, slice_get, refl, ap, subst, arith, inl, inr, ⊎_elim}
use Rattle.std.proofs.lemmas.Option.{same_Some}
use Rattle.dds_base.specs.declared.happening.Happening.{Happening}
use Rattle.dds_cache.specs.Standing.{qos_of}
use Rattle.rtps_reader.specs.Reader.{Proxies, AllStay, AllStand}
use Rattle.dds_ends.specs.Kept.{ReaderKept}
use Rattle.dds_ends.specs.Readiness.{IsAlike}
use Rattle.dds_ends.specs.Stored.{StoreKept}
use Rattle.dds_ends.specs.Storing.{Holds}

-- after a change of one element, another is as before, and that one is the new one
pub set-cases : {X : Type 0} (xs : List X) (i : ℕ) (x : X) (j : ℕ) (y : X) → slice_get (set xs i x) j ≡ Some y
    → ((j ≡ i) × (x ≡ y)) ⊎ (((j ≡ i) → ⊥) × (slice_get xs j ≡ Some y))
set-cases [] i x j y at = absurd cc
set-cases (a ∷ xs) zero x zero y at = inl (refl, same_Some x y at)
set-cases (a ∷ xs) zero x (suc j) y at = inr (λ e. omega (arith, e), at)
set-cases (a ∷ xs) (suc i) x zero y at = inr (λ e. omega (arith, e), at)
set-cases (a ∷ xs) (suc i) x (suc j) y at =
    ⊎_elim (λ s. inl (ap suc s.0, s.1)) (λ o. inr (λ e. o.0 (omega (arith, e)), o.1)) (set-cases xs i x j y at)

pub last-cases : {X : Type 0} (xs : List X) (x : X) (j : ℕ) (y : X) → slice_get (xs ++ x ∷ []) j ≡ Some y
    → ((j ≡ length xs) × (x ≡ y)) ⊎ ((j < length xs) × (slice_get xs j ≡ Some y))
last-cases [] x zero y at = inl (refl, same_Some x y at)
last-cases [] x (suc j) y at = absurd cc
last-cases (a ∷ xs) x zero y at = inr (omega arith, at)
last-cases (a ∷ xs) x (suc j) y at =
    ⊎_elim (λ s. inl (ap suc s.0, s.1)) (λ o. let lt = o.0 in inr (omega (arith, lt), o.1)) (last-cases xs x j y at)

-- the reader that is open has more memory in what it knows and in what it holds
pub alike_as : {inside old : ReaderKept} {reader : Proxies} {store : StoreKept} → inside ≡ old
    → AllStay inside.reader reader → AllStand inside.reader reader → qos_of store.cache ≡ qos_of inside.store.cache
    → ((h : List Happening) → Holds inside.store h → Holds store h)
    → IsAlike old (record inside { reader = reader; store = store })
alike_as {inside} {reader = reader} {store} view same how qos holds =
    subst (λ (k : ReaderKept). IsAlike k (record inside { reader = reader; store = store })) view
    (record {
      entity = refl;
      writers = refl;
      reader = same;
      how = how;
      qos = qos;
      seen = refl;
      matches = refl;
      here = refl;
      holds = holds;
    })

-- the element of the same index
pub partner : {X Y : Type 0} (xs : List X) (ys : List Y) (i : ℕ) (y : Y) → length ys ≡ length xs
    → slice_get ys i ≡ Some y → (x : X) × (slice_get xs i ≡ Some x)
partner [] [] i y count at = absurd cc
partner [] (b ∷ ys) i y count at = absurd (omega (arith, count))
partner (a ∷ xs) [] i y count at = absurd cc
partner (a ∷ xs) (b ∷ ys) zero y count at = (a, refl)
partner (a ∷ xs) (b ∷ ys) (suc i) y count at = partner xs ys i y (omega (arith, count)) at
