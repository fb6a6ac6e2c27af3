-- 256 bits in four words. Inner functions alone cite this: nothing here has to be believed.
use Rattle.std.specs.Prelude.{◌≡◌, ℕ, ◌*◌, ◌/◌, ◌%◌, ◌^◌, ◌<◌, ◌≤◌, ◌-◌, ◌+◌, ◌==◌, ◌&&◌, ◌||◌, not, nat_lt, Bool, true, false, List, length, take, drop, map, slice_index_or}
use Rattle.std.specs.Int.{bit_at}
use Rattle.std.specs.List.{range_with_len}
use Rattle.std.specs.Simd.Lanes.{mask_l}

-- the bit at a place: each word has 64, the lowest first
abbrev pub bit_of : List ℕ → ℕ → Bool
bit_of words place = bit_at (slice_index_or words (place / 64) 0) (place % 64) == 1

-- the bits in the order of their places
unfoldable pub bits_of : List ℕ → List Bool
bits_of words = map (λ place. bit_of words place) (range_with_len 0 256)

-- the word with the 64 bits from a place on
abbrev pub word_of : List Bool → ℕ → ℕ
word_of flags at = mask_l (take 64 (drop (64 * at) flags))

-- the words with these bits
unfoldable pub words_of : List Bool → List ℕ
words_of flags = map (λ at. word_of flags at) (range_with_len 0 4)

-- whether the k-th bit from a place on, round the ring, is one of so many, and neither of two rings has it
abbrev pub is_free : List Bool → List Bool → ℕ → ℕ → ℕ → Bool
is_free held irrelevant place count k =
    nat_lt k count && not
    (slice_index_or held ((place + k) % 256) false || slice_index_or irrelevant ((place + k) % 256) false)

-- four words of 64 bits
pub record AreWords (words : List ℕ) : Type 0 where
  pub count : length words ≡ 4
  pub small : (at : ℕ) → slice_index_or words at 0 < 2 ^ 64

-- the last of the bits below the end that is set stands right below the span; there is none where it is 0
pub record IsSpan (words : List ℕ) (end span : ℕ) : Type 0 where
  pub within : span ≤ end
  pub last : 0 < span → bit_of words (span - 1) ≡ true
  pub past : (place : ℕ) → span ≤ place → place < end → bit_of words place ≡ false
