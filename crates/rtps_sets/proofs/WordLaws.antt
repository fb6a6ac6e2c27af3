-- What a write to one word does to the 256 bits, and what their last one is.
use Rattle.std.proofs.Common.{◌≡◌, ℕ, suc, ◌-◌, ◌+◌, ◌*◌, ◌/◌, ◌%◌, ◌^◌, ◌<◌, ◌≤◌, Bool, true, false, not, ◌&&◌, ◌||◌, List, length, get_or, set, replicate, eqb, refl, inl, inr, sym, ap, ◌∙◌, arith, length-set, get_or-set_same, get_or-set_other, bit_or, bit_and, w64, pow-suc}
use Rattle.std.specs.Prelude.{◌≢◌, ◌⊎◌}
use Rattle.std.specs.Int.{bit_at, bit_not}
use Rattle.std.specs.Int.Count.{count_leading_zeros}
use Rattle.std.proofs.lemmas.Bool.{cases_lt, cases_eq, eq-eqb, ne_eqb, or_right, and_right}
use Rattle.std.proofs.lemmas.List.{set_past}
use Rattle.std.proofs.lemmas.Nat.{mod_below, or_lt, and_le_l, le-div, div_below, leading_top, pow_pos}
use Rattle.std.proofs.lemmas.Nat.Bits.{bit_at-zero, bit_at_above, bit_at_set_same, bit_at_set_other, bit_at_clear_same, bit_at_clear_other}
use Rattle.rtps_sets.specs.NumberSet.{span}
use Rattle.rtps_sets.specs.Bits.{bit_of, bits_of, AreWords, IsSpan}
use Rattle.rtps_sets.specs.BitLaws.{length-bits, bit_in, same_bits, bit_past}
use Rattle.rtps_sets.proofs.SpanLaws.{span_is}

-- one bit of one word is written
pub bits_with : (words : List ℕ) (place word : ℕ) (bit : Bool) → length words ≡ 4 → place < 256
    → eqb (bit_at word (place % 64)) 1 ≡ bit
    → ((i : ℕ) → i < 64 → i ≢ place % 64 → bit_at word i ≡ bit_at (get_or words (place / 64) 0) i)
    → bits_of (set words (place / 64) word) ≡ set (bits_of words) place bit
bits_with words place word bit count lt here others =
    same_bits (set words (place / 64) word) (set (bits_of words) place bit)
    (length-set (bits_of words) place bit ∙ length-bits words) (λ at less. each at less (cases_eq at place))
  where
    in_word : (at : ℕ) → (at ≡ place → ⊥) → (at / 64 ≡ place / 64) ⊎ (at / 64 ≡ place / 64 → ⊥)
        → bit_at (get_or (set words (place / 64) word) (at / 64) 0) (at % 64)
        ≡ bit_at (get_or words (at / 64) 0) (at % 64)
    in_word at ne (inl same) =
        rw same (rw (get_or-set_same words (place / 64) word 0 (omega (arith, count)))
        (others (at % 64) (omega arith) (λ e. ne (omega arith))))
    in_word at ne (inr other) =
        ap (λ (w : ℕ). bit_at w (at % 64)) (get_or-set_other words (place / 64) (at / 64) word 0 other)

    each : (at : ℕ) → at < 256 → (at ≡ place) ⊎ (at ≡ place → ⊥)
        → bit_of (set words (place / 64) word) at ≡ get_or (set (bits_of words) place bit) at false
    each at less (inl same) =
        rw same (rw (
          get_or-set_same words (place / 64) word 0 (omega (arith, count)),
          get_or-set_same (bits_of words) place bit false (omega (arith, length-bits words)),
        ) here)
    each at less (inr ne) =
        ap (λ (n : ℕ). eqb n 1) (in_word at ne (cases_eq (at / 64) (place / 64)))
        ∙ sym (get_or-set_other (bits_of words) place at bit false ne ∙ bit_in words at less)

-- a written word of 64 bits leaves four of them
pub words_with : (words : List ℕ) (at word : ℕ) → AreWords words → word < 2 ^ 64 → AreWords (set words at word)
words_with words at word are small = record {
  count = length-set words at word ∙ are.count;
  small = λ k. each k (cases_lt at 4) (cases_eq k at);
}
  where
    each : (k : ℕ) → (at < 4) ⊎ (4 ≤ at) → (k ≡ at) ⊎ (k ≡ at → ⊥) → get_or (set words at word) k 0 < 2 ^ 64
    each k (inl lt) (inl same) =
        rw same (rw (get_or-set_same words at word 0 (omega (arith, are.count))) small)
    each k (inr le) (inl same) =
        rw (set_past words at word (omega (arith, are.count))) (are.small k)
    each k within (inr ne) = rw (get_or-set_other words at k word 0 ne) (are.small k)

-- `|= 1 << (place % 64)` sets the bit of a place
pub bits_set : (words : List ℕ) (place : ℕ) → AreWords words → place < 256
    → bits_of (set words (place / 64) (bit_or (get_or words (place / 64) 0) (1 * 2 ^ (place % 64) % 2 ^ 64)))
    ≡ set (bits_of words) place true
bits_set words place are lt =
    let within : place % 64 < 64 = mod_below place 64 (omega arith) in
    bits_with words place _ true are.count lt
    (ap (λ (n : ℕ). eqb n 1) (bit_at_set_same w64 (get_or words (place / 64) 0) (place % 64) within))
    (λ i less ne. bit_at_set_other w64 (get_or words (place / 64) 0) (place % 64) within i ne)

pub words_set : (words : List ℕ) (place : ℕ) → AreWords words
    → AreWords (set words (place / 64) (bit_or (get_or words (place / 64) 0) (1 * 2 ^ (place % 64) % 2 ^ 64)))
words_set words place are =
    words_with words (place / 64) _ are
    (or_lt 64 _ _ (are.small (place / 64)) (mod_below (1 * 2 ^ (place % 64)) (2 ^ 64) (omega arith)))

-- `&= !(1 << (place % 64))` clears the bit of a place
pub bits_clear : (words : List ℕ) (place : ℕ) → AreWords words → place < 256
    → bits_of
    (set words (place / 64) (bit_and (get_or words (place / 64) 0) (bit_not w64 (1 * 2 ^ (place % 64) % 2 ^ 64))))
    ≡ set (bits_of words) place false
bits_clear words place are lt =
    let within : place % 64 < 64 = mod_below place 64 (omega arith) in
    bits_with words place _ false are.count lt
    (ap (λ (n : ℕ). eqb n 1) (bit_at_clear_same w64 (get_or words (place / 64) 0) (place % 64) within))
    (λ i less ne. bit_at_clear_other w64 (get_or words (place / 64) 0) (place % 64) within i less ne)

pub words_clear : (words : List ℕ) (place : ℕ) → AreWords words → AreWords
    (set words (place / 64) (bit_and (get_or words (place / 64) 0) (bit_not w64 (1 * 2 ^ (place % 64) % 2 ^ 64))))
words_clear words place are =
    words_with words (place / 64) _ are
    (let le = and_le_l (get_or words (place / 64) 0) (bit_not w64 (1 * 2 ^ (place % 64) % 2 ^ 64)) in
    let small = are.small (place / 64) in omega arith)

or_same : (b : Bool) → (b || false) ≡ b
or_same true = refl
or_same false = refl

and_same : (b : Bool) → (b && true) ≡ b
and_same true = refl
and_same false = refl

-- a bit that is set, and all others
pub place_set : (flags : List Bool) (place k : ℕ) → place < length flags
    → get_or (set flags place true) k false ≡ (get_or flags k false || eqb k place)
place_set flags place k lt = by (cases_eq k place)
  where
    by : (k ≡ place) ⊎ (k ≡ place → ⊥) → get_or (set flags place true) k false ≡ (get_or flags k false || eqb k place)
    by (inl same) =
        rw (same, get_or-set_same flags place true false lt, eq-eqb place place refl)
        (sym (or_right (get_or flags place false) true refl))
    by (inr ne) =
        rw (get_or-set_other flags place k true false ne, ne_eqb k place ne) (sym (or_same (get_or flags k false)))

-- a bit that is cleared, and all others
pub place_clear : (flags : List Bool) (place k : ℕ) → place < length flags
    → get_or (set flags place false) k false ≡ (get_or flags k false && not (eqb k place))
place_clear flags place k lt = by (cases_eq k place)
  where
    by : (k ≡ place) ⊎ (k ≡ place → ⊥)
        → get_or (set flags place false) k false ≡ (get_or flags k false && not (eqb k place))
    by (inl same) =
        rw (same, get_or-set_same flags place false false lt, eq-eqb place place refl)
        (sym (and_right (get_or flags place false) false refl))
    by (inr ne) =
        rw (get_or-set_other flags place k false false ne, ne_eqb k place ne) (sym (and_same (get_or flags k false)))

-- no bit of four words that are 0
pub no_bits : bits_of (replicate 4 0) ≡ replicate 256 false
unfolding bits_of
no_bits = refl

-- no bit of no word is set
pub no_span : (words : List ℕ) → IsSpan words 0 0
no_span words = record { within = omega arith; last = λ lt. absurd (omega arith); past = λ k le lt. absurd (omega arith) }

-- the next word is 0
pub span_same : (words : List ℕ) (at bits : ℕ) → IsSpan words (64 * at) bits → get_or words at 0 ≡ 0
    → IsSpan words (64 * (at + 1)) bits
span_same words at bits is empty = record {
  within = omega (arith, is.within);
  last = is.last;
  past = λ k le lt. each k le lt (cases_lt k (64 * at));
}
  where
    each : (k : ℕ) → bits ≤ k → k < 64 * (at + 1) → (k < 64 * at) ⊎ (64 * at ≤ k) → bit_of words k ≡ false
    each k le lt (inl less) = is.past k le less
    each k le lt (inr more) =
        let word : k / 64 ≡ at = omega arith in
        rw (word, empty, bit_at-zero (k % 64)) refl

top_bit : (j word : ℕ) → 2 ^ j ≤ word → word < 2 ^ suc j → bit_at word j ≡ 1
top_bit j word le lt =
    let low : 1 ≤ word / 2 ^ j = le-div 1 word (2 ^ j) (pow_pos j) (omega arith) in
    let high : word / 2 ^ j < 2 = div_below word (2 ^ j) 2 (pow_pos j) (omega (arith, pow-suc 2 j)) in
    let one : word / 2 ^ j ≡ 1 = omega arith in
    rw one refl

-- the next word is not 0
pub span_word : (words : List ℕ) (at bits : ℕ) → IsSpan words (64 * at) bits → 0 < get_or words at 0
    → get_or words at 0 < 2 ^ 64 → IsSpan words (64 * (at + 1)) (64 * (at + 1) - count_leading_zeros 64 (get_or words at 0))
span_word words at bits is pos small =
    by_top (leading_top 64 (get_or words at 0) pos small)
  where
    by_top : (j : ℕ) × (count_leading_zeros 64 (get_or words at 0) + suc j ≡ 64) × (2 ^ j ≤ get_or words at 0)
        × (get_or words at 0 < 2 ^ suc j)
        → IsSpan words (64 * (at + 1)) (64 * (at + 1) - count_leading_zeros 64 (get_or words at 0))
    by_top top =
        let j = top.0 in
        let end : 64 * (at + 1) - count_leading_zeros 64 (get_or words at 0) ≡ 64 * at + suc j = omega (arith, top.1) in
        rw end (record {
          within = omega (arith, top.1);
          last = λ lt.
              let place : 64 * at + suc j - 1 ≡ 64 * at + j = omega arith in
              let word : (64 * at + j) / 64 ≡ at = omega (arith, top.1) in
              let bit : (64 * at + j) % 64 ≡ j = omega (arith, top.1) in
              rw (place, word, bit, top_bit j (get_or words at 0) top.2 top.3) refl;
          past = λ k le lt.
              let word : k / 64 ≡ at = omega (arith, top.1) in
              rw (word, bit_at_above (get_or words at 0) (suc j) (k % 64) top.3 (omega (arith, top.1, word))) refl;
        })

-- the span of all four words
pub span_all_words : (words : List ℕ) (bits : ℕ) → IsSpan words 256 bits → bits ≡ span (bits_of words)
span_all_words words bits is =
    span_is (bits_of words) bits
    (λ pos. bit_in words (bits - 1) (omega (arith, is.within)) ∙ is.last pos)
    (λ k le. each k le (cases_lt k 256))
  where
    each : (k : ℕ) → bits ≤ k → (k < 256) ⊎ (256 ≤ k) → get_or (bits_of words) k false ≡ false
    each k le (inl lt) = bit_in words k lt ∙ is.past k le lt
    each k le (inr more) = bit_past words k more
