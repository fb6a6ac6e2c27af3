-- What the span of a set says of its members.
use Rattle.std.proofs.Common.{◌≡◌, ℕ, zero, suc, ◌+◌, ◌-◌, ◌<◌, ◌≤◌, Bool, true, false, leb, ltb, ◌&&◌, List, IsTrue, get_or, replicate, refl, inl, inr, sym, ap, ◌∙◌, arith}
use Rattle.std.specs.Prelude.{◌⊎◌}
use Rattle.std.proofs.lemmas.Bool.{cases_lt, le-leb, lt-ltb, le-ltb}
use Rattle.rtps_sets.specs.NumberSet.{NumberSet, has_number, empty_from, span}
use Rattle.rtps_sets.proofs.SpanLaws.{span_last, span_past}

pub none_of : (n k : ℕ) → get_or (replicate n false) k false ≡ false
none_of zero k = refl
none_of (suc n) zero = refl
none_of (suc n) (suc k) = none_of n k

and_false : (b c : Bool) → c ≡ false → (b && c) ≡ false
and_false true c e = e
and_false false c e = refl

pub empty_has_none : (base n : ℕ) → has_number (empty_from base) n ≡ false
empty_has_none base n = and_false (leb base n) _ (none_of 256 (n - base))

pub has_last : (s : NumberSet) (bits : ℕ) → bits ≡ span s.members → 0 < bits → IsTrue (has_number s (s.base + bits - 1))
has_last s bits e lt =
    let le : leb s.base (s.base + bits - 1) ≡ true = le-leb _ _ (omega arith) in
    let place : s.base + bits - 1 - s.base ≡ span s.members - 1 = omega (arith, e) in
    let last : get_or s.members (span s.members - 1) false ≡ true = span_last s.members (omega (arith, e)) in
    rw (le, place, last) refl

pub has_none_past : (s : NumberSet) (bits n : ℕ) → bits ≡ span s.members → s.base + bits ≤ n → has_number s n ≡ false
has_none_past s bits n e le = and_false (leb s.base n) _ (span_past s.members (n - s.base) (omega (arith, e)))

-- ---- the members below a place

below_place : (place at : ℕ) (b : Bool) → (ltb at place && b) ≡ true → (at < place) × (b ≡ true)
below_place place at b is = by (cases_lt at place)
  where
    by : (at < place) ⊎ (place ≤ at) → (at < place) × (b ≡ true)
    by (inl less) = (less, sym (ap (λ (c : Bool). c && b) (lt-ltb at place less)) ∙ is)
    by (inr more) =
        absurd (let e : false ≡ true = sym (ap (λ (c : Bool). c && b) (le-ltb at place more)) ∙ is in cc)

-- the flags of those members, each below the place
pub record AreBelow (s : NumberSet) (place : ℕ) (flags : List Bool) (bits : ℕ) : Type 0 where
  pub each : (k : ℕ) → k < 256 → get_or flags k false ≡ (ltb k place && get_or s.members k false)
  pub span : bits ≡ span flags
  pub few : bits ≤ 256
  pub within : place ≤ 256

last_below : (s : NumberSet) (place : ℕ) (flags : List Bool) (bits : ℕ) → AreBelow s place flags bits → 0 < bits
    → (bits - 1 < place) × (get_or s.members (bits - 1) false ≡ true)
last_below s place flags bits are pos =
    let some : 0 < span flags = omega (arith, pos, are.span) in
    below_place place (bits - 1) (get_or s.members (bits - 1) false)
    (sym (are.each (bits - 1) (omega (arith, are.few, pos)))
    ∙ (ap (λ (k : ℕ). get_or flags (k - 1) false) are.span ∙ span_last flags some))

pub within_below : (s : NumberSet) (place : ℕ) (flags : List Bool) (bits : ℕ) → AreBelow s place flags bits
    → bits ≤ place
within_below s place flags bits are = by (cases_lt 0 bits)
  where
    by : (0 < bits) ⊎ (bits ≤ 0) → bits ≤ place
    by (inl pos) = let last = last_below s place flags bits are pos in omega (arith, last.0)
    by (inr none) = omega (arith, none)

pub has_last_below : (s : NumberSet) (place : ℕ) (flags : List Bool) (bits : ℕ) → AreBelow s place flags bits → 0 < bits
    → IsTrue (has_number s (s.base + bits - 1))
has_last_below s place flags bits are pos =
    let last = last_below s place flags bits are pos in
    let le : leb s.base (s.base + bits - 1) ≡ true = le-leb _ _ (omega (arith, pos)) in
    let at : s.base + bits - 1 - s.base ≡ bits - 1 = omega (arith, pos) in
    rw (le, at, last.1) refl

pub has_none_below : (s : NumberSet) (place : ℕ) (flags : List Bool) (bits n : ℕ) → AreBelow s place flags bits
    → s.base + bits ≤ n → n < s.base + place → has_number s n ≡ false
has_none_below s place flags bits n are low high =
    let within = are.within in
    let less : n - s.base < place = omega (arith, low, high) in
    and_false (leb s.base n) _
    (sym (ap (λ (b : Bool). b && get_or s.members (n - s.base) false) (lt-ltb (n - s.base) place less))
    ∙ (sym (are.each (n - s.base) (omega (arith, less, within)))
    ∙ span_past flags (n - s.base) (let is = are.span in omega (arith, is, low))))
