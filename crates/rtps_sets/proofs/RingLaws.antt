-- The bits of a ring, word by word.
use Rattle.std.proofs.Common.{◌≡◌, ℕ, zero, suc, ◌-◌, ◌+◌, ◌*◌, ◌/◌, ◌%◌, ◌^◌, ◌<◌, ◌≤◌, min, max, Bool, not, ◌&&◌, ◌||◌, List, get_or, set, eqb, ltb, refl, inl, inr, sym, ap, ◌∙◌, arith, add-zero, bit_or, bit_and, w64, get_or-set_same, get_or-set_other}
use Rattle.std.specs.Prelude.{◌⊎◌}
use Rattle.std.specs.Int.{bit_at, bit_not}
use Rattle.std.proofs.lemmas.Bool.{cases_lt, lt-ltb, le-ltb}
use Rattle.std.proofs.lemmas.Nat.{shr-shr, shr_split, pow_pos, one_shl}
use Rattle.std.proofs.lemmas.Nat.Bits.{bit_at-lt, bit_at-zero, bit_at_above, bit_at_and, bit_at_or, bit_at_not, bit_at_ones, bit_at_ones_above, bit_at_cat_low, bit_at_cat_high}
use Rattle.rtps_sets.specs.Bits.{bit_of, AreWords}

bit_mod : (n i : ℕ) → i < 64 → bit_at (n % 2 ^ 64) i ≡ bit_at n i
bit_mod n i lt =
    sym (bit_at_cat_low (n / 2 ^ 64) 64 (n % 2 ^ 64) i lt) ∙ ap (λ (m : ℕ). bit_at m i) (shr_split n 64)

pub bit_shr : (n by i : ℕ) → bit_at (n / 2 ^ by) i ≡ bit_at n (by + i)
bit_shr n by i = ap (λ (m : ℕ). m % 2) (shr-shr n by i)

pub bit_shl_low : (n by i : ℕ) → i < by → i < 64 → bit_at (n * 2 ^ by % 2 ^ 64) i ≡ 0
bit_shl_low n by i lt less =
    bit_mod (n * 2 ^ by) i less
    ∙ (ap (λ (m : ℕ). bit_at m i) (sym (add-zero (n * 2 ^ by))) ∙ (bit_at_cat_low n by 0 i lt ∙ bit_at-zero i))

pub bit_shl_high : (n by i : ℕ) → by ≤ i → i < 64 → bit_at (n * 2 ^ by % 2 ^ 64) i ≡ bit_at n (i - by)
bit_shl_high n by i le less =
    bit_mod (n * 2 ^ by) i less
    ∙ (ap (λ (m : ℕ). bit_at m i) (sym (add-zero (n * 2 ^ by))) ∙ bit_at_cat_high n by 0 i (pow_pos by) le)

-- a bit from a place on that stands in the same word
ring_low : (words : List ℕ) (place i : ℕ) → place < 256 → place % 64 + i < 64
    → eqb (bit_at (get_or words (place / 64) 0) (place % 64 + i)) 1 ≡ bit_of words ((place + i) % 256)
ring_low words place i lt same =
    let word : (place + i) % 256 / 64 ≡ place / 64 = omega arith in
    let bit : (place + i) % 256 % 64 ≡ place % 64 + i = omega arith in
    rw (word, bit) refl

-- a bit from a place on that stands in the next word, round the ring
ring_high : (words : List ℕ) (place i : ℕ) → place < 256 → i < 64 → 64 ≤ place % 64 + i
    → eqb (bit_at (get_or words ((place / 64 + 1) % 4) 0) (place % 64 + i - 64)) 1 ≡ bit_of words ((place + i) % 256)
ring_high words place i lt less next =
    let word : (place + i) % 256 / 64 ≡ (place / 64 + 1) % 4 = omega arith in
    let bit : (place + i) % 256 % 64 ≡ place % 64 + i - 64 = omega arith in
    rw (word, bit) refl

pub ring_at : (words : List ℕ) (place i : ℕ) → place < 256 → i < 64 → place % 64 ≡ 0
    → eqb (bit_at (get_or words (place / 64) 0 / 2 ^ (place % 64)) i) 1 ≡ bit_of words ((place + i) % 256)
ring_at words place i lt less first =
    ap (λ (n : ℕ). eqb n 1) (bit_shr (get_or words (place / 64) 0) (place % 64) i)
    ∙ ring_low words place i lt (omega arith)

pub ring_over : (words : List ℕ) (place i : ℕ) → AreWords words → place < 256 → i < 64
    → eqb (bit_at (bit_or (get_or words (place / 64) 0 / 2 ^ (place % 64))
    (get_or words ((place / 64 + 1) % 4) 0 * 2 ^ (64 - place % 64) % 2 ^ 64)) i) 1
    ≡ bit_of words ((place + i) % 256)
ring_over words place i are lt less =
    ap (λ (n : ℕ). eqb n 1) (bit_at_or low high i) ∙ by (cases_lt (place % 64 + i) 64)
  where
    low : ℕ
    low = get_or words (place / 64) 0 / 2 ^ (place % 64)

    high : ℕ
    high = get_or words ((place / 64 + 1) % 4) 0 * 2 ^ (64 - place % 64) % 2 ^ 64

    by : (place % 64 + i < 64) ⊎ (64 ≤ place % 64 + i)
        → eqb (max (bit_at low i) (bit_at high i)) 1 ≡ bit_of words ((place + i) % 256)
    by (inl same) =
        let none : bit_at high i ≡ 0 =
        bit_shl_low (get_or words ((place / 64 + 1) % 4) 0) (64 - place % 64) i (omega arith) less in
        let is : max (bit_at low i) (bit_at high i) ≡ bit_at (get_or words (place / 64) 0) (place % 64 + i) =
        omega (arith, none, bit_shr (get_or words (place / 64) 0) (place % 64) i) in
        ap (λ (n : ℕ). eqb n 1) is ∙ ring_low words place i lt same
    by (inr next) =
        let none : bit_at low i ≡ 0 =
        bit_shr (get_or words (place / 64) 0) (place % 64) i
        ∙ bit_at_above (get_or words (place / 64) 0) 64 (place % 64 + i) (are.small (place / 64)) next in
        let at : i - (64 - place % 64) ≡ place % 64 + i - 64 = omega arith in
        let there : bit_at high i ≡ bit_at (get_or words ((place / 64 + 1) % 4) 0) (place % 64 + i - 64) =
        bit_shl_high (get_or words ((place / 64 + 1) % 4) 0) (64 - place % 64) i (omega arith) less
        ∙ ap (λ (k : ℕ). bit_at (get_or words ((place / 64 + 1) % 4) 0) k) at in
        let is : max (bit_at low i) (bit_at high i)
        ≡ bit_at (get_or words ((place / 64 + 1) % 4) 0) (place % 64 + i - 64) = omega (arith, none, there) in
        ap (λ (n : ℕ). eqb n 1) is ∙ ring_high words place i lt less next

-- the lowest bits
pub ones_below : (count i : ℕ) → count < 64 → eqb (bit_at (1 * 2 ^ count % 2 ^ 64 - 1) i) 1 ≡ ltb i count
ones_below count i lt =
    ap (λ (n : ℕ). eqb (bit_at (n - 1) i) 1) (one_shl count 64 lt) ∙ by (cases_lt i count)
  where
    by : (i < count) ⊎ (count ≤ i) → eqb (bit_at (2 ^ count - 1) i) 1 ≡ ltb i count
    by (inl less) = rw (bit_at_ones count i less, lt-ltb i count less) refl
    by (inr more) = rw (bit_at_ones_above count i more, le-ltb i count more) refl

pub ones_all : (count i : ℕ) → 64 ≤ count → i < 64 → eqb (bit_at (2 ^ 64 - 1) i) 1 ≡ ltb i count
ones_all count i le less = rw (bit_at_ones 64 i less, lt-ltb i count (omega arith)) refl

free_digit : (x y z : ℕ) → x < 2 → y < 2 → z < 2
    → eqb (min (1 - max x y) z) 1 ≡ (eqb z 1 && not (eqb x 1 || eqb y 1))
free_digit zero zero zero a b c = refl
free_digit zero zero (suc zero) a b c = refl
free_digit zero (suc zero) zero a b c = refl
free_digit zero (suc zero) (suc zero) a b c = refl
free_digit (suc zero) zero zero a b c = refl
free_digit (suc zero) zero (suc zero) a b c = refl
free_digit (suc zero) (suc zero) zero a b c = refl
free_digit (suc zero) (suc zero) (suc zero) a b c = refl
free_digit (suc (suc x)) y z a b c = absurd (omega arith)
free_digit zero (suc (suc y)) z a b c = absurd (omega arith)
free_digit (suc zero) (suc (suc y)) z a b c = absurd (omega arith)
free_digit zero zero (suc (suc z)) a b c = absurd (omega arith)
free_digit zero (suc zero) (suc (suc z)) a b c = absurd (omega arith)
free_digit (suc zero) zero (suc (suc z)) a b c = absurd (omega arith)
free_digit (suc zero) (suc zero) (suc (suc z)) a b c = absurd (omega arith)

-- the bits that stand in neither of two words, among those of a third
pub free_bit : (a b ones i : ℕ) → bit_or a b < 2 ^ 64 → i < 64
    → eqb (bit_at (bit_and (bit_not w64 (bit_or a b)) ones) i) 1
    ≡ (eqb (bit_at ones i) 1 && not (eqb (bit_at a i) 1 || eqb (bit_at b i) 1))
free_bit a b ones i small less =
    let neither : bit_at (bit_not w64 (bit_or a b)) i ≡ 1 - max (bit_at a i) (bit_at b i) =
    bit_at_not w64 (bit_or a b) i small less ∙ ap (λ (n : ℕ). 1 - n) (bit_at_or a b i) in
    ap (λ (n : ℕ). eqb n 1)
    (bit_at_and (bit_not w64 (bit_or a b)) ones i ∙ ap (λ (n : ℕ). min n (bit_at ones i)) neither)
    ∙ free_digit (bit_at a i) (bit_at b i) (bit_at ones i) (bit_at-lt a i) (bit_at-lt b i) (bit_at-lt ones i)

both_digit : (x z : ℕ) → x < 2 → z < 2 → eqb (min x z) 1 ≡ (eqb z 1 && eqb x 1)
both_digit zero zero a b = refl
both_digit zero (suc zero) a b = refl
both_digit (suc zero) zero a b = refl
both_digit (suc zero) (suc zero) a b = refl
both_digit (suc (suc x)) z a b = absurd (omega arith)
both_digit zero (suc (suc z)) a b = absurd (omega arith)
both_digit (suc zero) (suc (suc z)) a b = absurd (omega arith)

-- the bits of a word that stand among those of another
pub both_bit : (a ones i : ℕ) → eqb (bit_at (bit_and a ones) i) 1 ≡ (eqb (bit_at ones i) 1 && eqb (bit_at a i) 1)
both_bit a ones i =
    ap (λ (n : ℕ). eqb n 1) (bit_at_and a ones i)
    ∙ both_digit (bit_at a i) (bit_at ones i) (bit_at-lt a i) (bit_at-lt ones i)

-- a bit of a word is one of those of all words
pub bit_in_word : (words : List ℕ) (at i : ℕ) → i < 64
    → eqb (bit_at (get_or words at 0) i) 1 ≡ bit_of words (64 * at + i)
bit_in_word words at i less =
    let word : (64 * at + i) / 64 ≡ at = omega arith in
    let bit : (64 * at + i) % 64 ≡ i = omega arith in
    rw (word, bit) refl

-- so many bits of a word stand below a place
pub below_in_word : (at i end count : ℕ) → count ≡ end - 64 * at → ltb i count ≡ ltb (64 * at + i) end
below_in_word at i end count is = by (cases_lt i count)
  where
    by : (i < count) ⊎ (count ≤ i) → ltb i count ≡ ltb (64 * at + i) end
    by (inl less) = rw (lt-ltb i count less, lt-ltb (64 * at + i) end (omega (arith, is, less))) refl
    by (inr more) = rw (le-ltb i count more, le-ltb (64 * at + i) end (omega (arith, is, more))) refl

-- one word more has its bits
pub bits_more : (words : List ℕ) (at word : ℕ) (flag : ℕ → Bool) → AreWords words → at < 4
    → ((k : ℕ) → k < 64 * at → bit_of words k ≡ flag k)
    → ((i : ℕ) → i < 64 → eqb (bit_at word i) 1 ≡ flag (64 * at + i))
    → (k : ℕ) → k < 64 * (at + 1) → bit_of (set words at word) k ≡ flag k
bits_more words at word flag are lt so_far each k high = by (cases_lt k (64 * at))
  where
    by : (k < 64 * at) ⊎ (64 * at ≤ k) → bit_of (set words at word) k ≡ flag k
    by (inl less) =
        ap (λ (v : ℕ). eqb (bit_at v (k % 64)) 1)
        (get_or-set_other words at (k / 64) word 0 (λ e. omega (arith, e, less)))
        ∙ so_far k less
    by (inr more) =
        let here : k / 64 ≡ at = omega (arith, more, high) in
        let place : 64 * at + k % 64 ≡ k = omega (arith, more, high) in
        rw here (rw (get_or-set_same words at word 0 (omega (arith, are.count, lt)))
        (each (k % 64) (omega arith) ∙ ap flag place))
