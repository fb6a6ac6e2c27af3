-- The 256 bits of four words, one by one. Inner functions alone cite this: nothing here has to be believed.
use Rattle.std.proofs.Common.{◌≡◌, ℕ, zero, suc, ◌+◌, ◌*◌, ◌/◌, ◌%◌, ◌^◌, ◌<◌, ◌≤◌, Bool, false, cond, List, length, get_or, take, drop, eqb, refl, sym, ap, ◌∙◌, arith, length-take-le, length-drop, get_or-take, get_or-drop, ext_get_or, subst}
use Rattle.std.specs.Int.{bit_at}
use Rattle.std.proofs.lemmas.List.{get_or_past}
use Rattle.std.proofs.lemmas.List.FromFn.{length-map-range_with_len, get_or-map-range_with_len}
use Rattle.std.proofs.lemmas.Nat.Bits.{bit_at-lt, same_from_bits_below}
use Rattle.std.proofs.lemmas.Simd.{mask_l-lt, bit_mask_l}
use Rattle.rtps_sets.specs.Bits.{bit_of, bits_of, word_of, words_of, AreWords}

pub length-bits : (words : List ℕ) → length (bits_of words) ≡ 256
unfolding bits_of
length-bits words = length-map-range_with_len (λ place. bit_of words place) 0 256

pub bit_in : (words : List ℕ) (place : ℕ) → place < 256 → get_or (bits_of words) place false ≡ bit_of words place
unfolding bits_of
bit_in words place lt =
    get_or-map-range_with_len (λ at. bit_of words at) 0 256 place place false lt (omega arith)

pub bit_past : (words : List ℕ) (place : ℕ) → 256 ≤ place → get_or (bits_of words) place false ≡ false
bit_past words place le = get_or_past (bits_of words) place false (omega (arith, length-bits words))

-- two lists of 256 bits with the same bit at each place are equal
pub same_bits : (words : List ℕ) (flags : List Bool) → length flags ≡ 256
    → ((place : ℕ) → place < 256 → bit_of words place ≡ get_or flags place false) → bits_of words ≡ flags
same_bits words flags count each =
    ext_get_or false (bits_of words) flags (length-bits words ∙ sym count)
    (λ place lt. let within : place < 256 = omega (arith, length-bits words) in
    bit_in words place within ∙ each place within)

digit : (n : ℕ) → n < 2 → cond (eqb n 1) 1 0 ≡ n
digit zero lt = refl
digit (suc zero) lt = refl
digit (suc (suc n)) lt = absurd (omega arith)

-- the bits of the word that was made of its bits
word_bit : (words : List ℕ) (at i : ℕ) → at < 4 → i < 64
    → bit_at (word_of (bits_of words) at) i ≡ bit_at (get_or words at 0) i
word_bit words at i lt less =
    let place : (64 * at + i) / 64 ≡ at = omega arith in
    let within : (64 * at + i) % 64 ≡ i = omega arith in
    let read : get_or (take 64 (drop (64 * at) (bits_of words))) i false ≡ bit_of words (64 * at + i) =
    get_or-take 64 (drop (64 * at) (bits_of words)) i false less
    ∙ (get_or-drop (64 * at) (bits_of words) i false ∙ bit_in words (64 * at + i) (omega arith)) in
    let is : bit_of words (64 * at + i) ≡ eqb (bit_at (get_or words at 0) i) 1 = rw (place, within) refl in
    bit_mask_l (take 64 (drop (64 * at) (bits_of words))) i
    ∙ (ap (λ (b : Bool). cond b 1 0) (read ∙ is)
    ∙ digit (bit_at (get_or words at 0) i) (bit_at-lt (get_or words at 0) i))

word_back : (words : List ℕ) (at : ℕ) → AreWords words → at < 4 → word_of (bits_of words) at ≡ get_or words at 0
word_back words at are lt =
    let long : length (take 64 (drop (64 * at) (bits_of words))) ≡ 64 =
    length-take-le 64 (drop (64 * at) (bits_of words))
    (omega (arith, length-drop (64 * at) (bits_of words), length-bits words)) in
    let small : word_of (bits_of words) at < 2 ^ 64 =
    subst (λ (n : ℕ). word_of (bits_of words) at < 2 ^ n) long
    (mask_l-lt (take 64 (drop (64 * at) (bits_of words)))) in
    same_from_bits_below 64 (word_of (bits_of words) at) (get_or words at 0) small (are.small at)
    (λ i less. word_bit words at i lt less)

-- the bits say what the words are
pub words_back : (words : List ℕ) → AreWords words → words_of (bits_of words) ≡ words
unfolding words_of
words_back words are =
    let long = length-map-range_with_len (λ at. word_of (bits_of words) at) 0 4 in
    ext_get_or 0 (words_of (bits_of words)) words (long ∙ sym are.count)
    (λ at lt. let less : at < 4 = omega (arith, long) in
    get_or-map-range_with_len (λ k. word_of (bits_of words) k) 0 4 at at 0 less (omega arith)
    ∙ word_back words at are less)
