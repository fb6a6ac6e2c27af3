-- The bits of words in the other order, one by one.
use Rattle.std.proofs.Common.{◌≡◌, ℕ, zero, suc, ◌-◌, ◌+◌, ◌*◌, ◌/◌, ◌%◌, ◌^◌, ◌<◌, ◌≤◌, max, Bool, true, false, ◌&&◌, ◌||◌, List, length, get_or, set, eqb, ltb, leb, refl, inl, inr, sym, ap, ◌∙◌, arith, bit_or, bit_and, length-set, get_or-set_same, get_or-set_other}
use Rattle.std.specs.Prelude.{◌⊎◌}
use Rattle.std.specs.Int.{bit_at}
use Rattle.std.proofs.lemmas.Bool.{cases_lt, cases_Bool, le-ltb, eqb-true, leb-true, ltb-true, and_parts, agree_below, agree_below_at}
use Rattle.std.proofs.lemmas.Nat.Bits.{bit_at-lt, bit_at_above, bit_at_and, bit_at_or, bit_at_ones}
use Rattle.rtps_sets.specs.Mirror.{mirror, neighbour, is_paired, wire_flag}
use Rattle.rtps_sets.proofs.RingLaws.{bit_shr, bit_shl_low, bit_shl_high}

-- ---- neighbours change places

no_digit : (d : ℕ) → d < 2 → eqb d 1 ≡ false → d ≡ 0
no_digit zero lt e = refl
no_digit (suc zero) lt e = absurd (cc)
no_digit (suc (suc d)) lt e = absurd (omega arith)

other_side : (a b : Bool) → (a || b) ≡ true → a ≡ false → b ≡ true
other_side a b or is = sym (ap (λ (c : Bool). c || b) is) ∙ or

-- a bit that the mask has comes from above
from_above : (x by mask i : ℕ) → i < 64 → bit_at mask i ≡ 1 → (ltb i by || eqb (bit_at mask (i - by)) 0) ≡ true
    → bit_at (bit_or (bit_and (x / 2 ^ by) mask) (bit_and x mask * 2 ^ by % 2 ^ 64)) i ≡ bit_at x (i + by)
from_above x by mask i less has pair =
    let none = low (cases_lt i by) in
    let small = bit_at-lt (x / 2 ^ by) i in
    let high : bit_at (bit_and (x / 2 ^ by) mask) i ≡ bit_at (x / 2 ^ by) i =
    bit_at_and (x / 2 ^ by) mask i ∙ omega (arith, has, small) in
    let place : by + i ≡ i + by = omega arith in
    let moved : bit_at (x / 2 ^ by) i ≡ bit_at x (i + by) =
    bit_shr x by i ∙ ap (λ (k : ℕ). bit_at x k) place in
    bit_at_or (bit_and (x / 2 ^ by) mask) (bit_and x mask * 2 ^ by % 2 ^ 64) i
    ∙ omega (arith, none, high, moved)
  where
    low : (i < by) ⊎ (by ≤ i) → bit_at (bit_and x mask * 2 ^ by % 2 ^ 64) i ≡ 0
    low (inl lt) = bit_shl_low (bit_and x mask) by i lt less
    low (inr le) =
        let lacks : bit_at mask (i - by) ≡ 0 =
        eqb-true (bit_at mask (i - by)) 0 (other_side (ltb i by) (eqb (bit_at mask (i - by)) 0) pair (le-ltb i by le)) in
        bit_shl_high (bit_and x mask) by i le less
        ∙ (bit_at_and x mask (i - by) ∙ omega (arith, lacks))

-- one that it has not comes from below
from_below : (x by mask i : ℕ) → i < 64 → bit_at mask i ≡ 0 → (leb by i && eqb (bit_at mask (i - by)) 1) ≡ true
    → bit_at (bit_or (bit_and (x / 2 ^ by) mask) (bit_and x mask * 2 ^ by % 2 ^ 64)) i ≡ bit_at x (i - by)
from_below x by mask i less lacks pair =
    let both = and_parts (leb by i) (eqb (bit_at mask (i - by)) 1) pair in
    let has : bit_at mask (i - by) ≡ 1 = eqb-true (bit_at mask (i - by)) 1 both.1 in
    let none : bit_at (bit_and (x / 2 ^ by) mask) i ≡ 0 =
    bit_at_and (x / 2 ^ by) mask i ∙ omega (arith, lacks) in
    let small = bit_at-lt x (i - by) in
    let low : bit_at (bit_and x mask * 2 ^ by % 2 ^ 64) i ≡ bit_at x (i - by) =
    bit_shl_high (bit_and x mask) by i (leb-true by i both.0) less
    ∙ (bit_at_and x mask (i - by) ∙ omega (arith, has, small)) in
    bit_at_or (bit_and (x / 2 ^ by) mask) (bit_and x mask * 2 ^ by % 2 ^ 64) i
    ∙ omega (arith, none, low)

pub swapped_bit : (x by mask i : ℕ) → i < 64 → is_paired by mask i ≡ true
    → bit_at (bit_or (bit_and (x / 2 ^ by) mask) (bit_and x mask * 2 ^ by % 2 ^ 64)) i ≡ bit_at x (neighbour by mask i)
swapped_bit x by mask i less pair = split (cases_Bool (eqb (bit_at mask i) 1))
  where
    split : (eqb (bit_at mask i) 1 ≡ true) ⊎ (eqb (bit_at mask i) 1 ≡ false)
        → bit_at (bit_or (bit_and (x / 2 ^ by) mask) (bit_and x mask * 2 ^ by % 2 ^ 64)) i
        ≡ bit_at x (neighbour by mask i)
    split (inl has) =
        rw has (from_above x by mask i less (eqb-true (bit_at mask i) 1 has) (rw has at pair))
    split (inr lacks) =
        rw lacks (from_below x by mask i less (no_digit (bit_at mask i) (bit_at-lt mask i) lacks) (rw lacks at pair))

-- ---- all five exchanges

-- a neighbour stands in the word
pub is_within : (by mask i : ℕ) → agree_below (λ k. ltb (neighbour by mask k) 64) (λ k. true) 64 ≡ true → i < 64
    → neighbour by mask i < 64
is_within by mask i all lt =
    ltb-true (neighbour by mask i) 64 (agree_below_at (λ k. ltb (neighbour by mask k) 64) (λ k. true) 64 i all lt)

-- the masks of neighbours at a distance of 1, 2, 4, 8 and 16
abbrev pub ones : ℕ
ones = 6148914691236517205

abbrev pub twos : ℕ
twos = 3689348814741910323

abbrev pub fours : ℕ
fours = 1085102592571150095

abbrev pub eights : ℕ
eights = 71777214294589695

abbrev pub sixteens : ℕ
sixteens = 281470681808895

-- where a bit comes from by all of them, the last exchange first
abbrev pub origin : ℕ → ℕ
origin i = neighbour 1 ones (neighbour 2 twos (neighbour 4 fours (neighbour 8 eights (neighbour 16 sixteens i))))

pub origin_is_mirror : (i : ℕ) → i < 64 → origin i ≡ mirror i
origin_is_mirror i lt =
    eqb-true (origin i) (mirror i) (agree_below_at (λ k. eqb (origin k) (mirror k)) (λ k. true) 64 i refl lt)

-- ---- pairs of words

pub pair_bit : (words : List ℕ) (at low high i : ℕ) → low ≡ get_or words (2 * at) 0 → high ≡ get_or words (2 * at + 1) 0
    → low < 2 ^ 32 → i < 64
    → bit_at (bit_or low (high * 2 ^ 32 % 2 ^ 64)) i ≡ bit_at (get_or words (2 * at + i / 32) 0) (i % 32)
pair_bit words at low high i is_low is_high small less = bit_at_or low (high * 2 ^ 32 % 2 ^ 64) i ∙ by (cases_lt i 32)
  where
    by : (i < 32) ⊎ (32 ≤ i)
        → max (bit_at low i) (bit_at (high * 2 ^ 32 % 2 ^ 64) i) ≡ bit_at (get_or words (2 * at + i / 32) 0) (i % 32)
    by (inl lower) =
        let none = bit_shl_low high 32 i lower less in
        let word : 2 * at + i / 32 ≡ 2 * at = omega (arith, lower) in
        let bit : i % 32 ≡ i = omega (arith, lower) in
        let is : max (bit_at low i) (bit_at (high * 2 ^ 32 % 2 ^ 64) i) ≡ bit_at low i = omega (arith, none) in
        is ∙ rw (word, bit) (ap (λ (w : ℕ). bit_at w i) is_low)
    by (inr upper) =
        let none = bit_at_above low 32 i small upper in
        let there = bit_shl_high high 32 i upper less in
        let word : 2 * at + i / 32 ≡ 2 * at + 1 = omega (arith, upper, less) in
        let bit : i % 32 ≡ i - 32 = omega (arith, upper, less) in
        let is : max (bit_at low i) (bit_at (high * 2 ^ 32 % 2 ^ 64) i) ≡ bit_at high (i - 32) =
        omega (arith, none, there) in
        is ∙ rw (word, bit) (ap (λ (w : ℕ). bit_at w (i - 32)) is_high)

pub mirror_lt : (i : ℕ) → i < 64 → mirror i < 64
mirror_lt i lt = omega (arith, lt)

-- the bits of a pair in the other order are flags
pub pair_flag : (words : List ℕ) (at i : ℕ) → i < 64
    → eqb (bit_at (get_or words (2 * at + mirror i / 32) 0) (mirror i % 32)) 1 ≡ wire_flag words (64 * at + i)
pair_flag words at i lt =
    let word : 2 * at + mirror i / 32 ≡ (64 * at + i) / 32 = omega (arith, lt) in
    let bit : mirror i % 32 ≡ 31 - (64 * at + i) % 32 = omega (arith, lt) in
    rw (word, bit) refl

-- two words more have their flags
pub flags_more : (words : List ℕ) (at low high : ℕ) (flag : ℕ → Bool) → length words ≡ 8 → at < 4
    → ((k : ℕ) → k < 64 * at → wire_flag words k ≡ flag k)
    → ((i : ℕ) → i < 32 → eqb (bit_at low (31 - i)) 1 ≡ flag (64 * at + i))
    → ((i : ℕ) → i < 32 → eqb (bit_at high (31 - i)) 1 ≡ flag (64 * at + (32 + i)))
    → (k : ℕ) → k < 64 * (at + 1) → wire_flag (set (set words (2 * at) low) (2 * at + 1) high) k ≡ flag k
flags_more words at low high flag count lt so_far lower upper k end =
    by (cases_lt k (64 * at)) (cases_lt k (64 * at + 32))
  where
    by : (k < 64 * at) ⊎ (64 * at ≤ k) → (k < 64 * at + 32) ⊎ (64 * at + 32 ≤ k)
        → wire_flag (set (set words (2 * at) low) (2 * at + 1) high) k ≡ flag k
    by (inl less) any =
        ap (λ (w : ℕ). eqb (bit_at w (31 - k % 32)) 1)
        (get_or-set_other (set words (2 * at) low) (2 * at + 1) (k / 32) high 0 (λ e. omega (arith, e, less))
        ∙ get_or-set_other words (2 * at) (k / 32) low 0 (λ e. omega (arith, e, less)))
        ∙ so_far k less
    by (inr more) (inl first) =
        let word : k / 32 ≡ 2 * at = omega (arith, more, first) in
        let place : 64 * at + k % 32 ≡ k = omega (arith, more, first) in
        ap (λ (w : ℕ). eqb (bit_at w (31 - k % 32)) 1)
        (get_or-set_other (set words (2 * at) low) (2 * at + 1) (k / 32) high 0 (λ e. omega (arith, e, word))
        ∙ ap (λ (n : ℕ). get_or (set words (2 * at) low) n 0) word
        ∙ get_or-set_same words (2 * at) low 0 (omega (arith, count, lt)))
        ∙ lower (k % 32) (omega arith) ∙ ap flag place
    by (inr more) (inr second) =
        let word : k / 32 ≡ 2 * at + 1 = omega (arith, second, end) in
        let place : 64 * at + (32 + k % 32) ≡ k = omega (arith, second, end) in
        ap (λ (w : ℕ). eqb (bit_at w (31 - k % 32)) 1)
        (ap (λ (n : ℕ). get_or (set (set words (2 * at) low) (2 * at + 1) high) n 0) word
        ∙ get_or-set_same (set words (2 * at) low) (2 * at + 1) high 0
        (omega (arith, count, lt, length-set words (2 * at) low)))
        ∙ upper (k % 32) (omega arith) ∙ ap flag place

-- the lower half of a pair whose bits are in the other order, and its upper half
pub lower_half : (pair word i : ℕ) → i < 32 → ((k : ℕ) → k < 64 → bit_at pair k ≡ bit_at word (mirror k))
    → bit_at (bit_and pair (2 ^ 32 - 1)) (31 - i) ≡ bit_at word i
lower_half pair word i lt each =
    let one = bit_at_ones 32 (31 - i) (omega (arith, lt)) in
    let small = bit_at-lt pair (31 - i) in
    let place : mirror (31 - i) ≡ i = omega (arith, lt) in
    bit_at_and pair (2 ^ 32 - 1) (31 - i) ∙ omega (arith, one, small)
    ∙ (each (31 - i) (omega (arith, lt)) ∙ ap (λ (k : ℕ). bit_at word k) place)

pub upper_half : (pair word i : ℕ) → i < 32 → ((k : ℕ) → k < 64 → bit_at pair k ≡ bit_at word (mirror k))
    → bit_at (pair / 2 ^ 32) (31 - i) ≡ bit_at word (32 + i)
upper_half pair word i lt each =
    let place : mirror (32 + (31 - i)) ≡ 32 + i = omega (arith, lt) in
    bit_shr pair 32 (31 - i)
    ∙ (each (32 + (31 - i)) (omega (arith, lt)) ∙ ap (λ (k : ℕ). bit_at word k) place)
