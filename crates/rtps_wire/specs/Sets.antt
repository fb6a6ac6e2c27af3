-- Sets of sequence numbers in bytes (RTPS 2.5, 9.4.2: SequenceNumberSet).
--
-- 0...............8...............16..............24.............31
-- |                   base: high half, low half                   |
-- |                 number of bits, at most 256                   |
-- |       a word for each 32 bits begun, highest bit first        |
use Rattle.std.specs.Prelude.{◌≡◌, ℕ, zero, suc, ◌+◌, ◌-◌, ◌/◌, ◌^◌, ◌≤◌, ◌<◌, ◌==◌, ◌&&◌, Bool, false, List, [], ◌∷◌, ◌++◌, length, take, drop, replicate, if◌then◌else◌, slice_index_or}
use Rattle.std.specs.List.{flat_map, AllByRecursion}
use Rattle.std.specs.Int.{w32}
use Rattle.std.specs.Int.RustNames.{bit_and}
use Rattle.dds_base.specs.declared.endianness.Endianness.{Endianness}
use Rattle.dds_base.specs.declared.endianness.Endianness.TheVariants.{Little}
use Rattle.dds_base.specs.Bounds.{max_sn}
use Rattle.dds_base.specs.Fields.{number}
use Rattle.rtps_sets.specs.NumberSet.{NumberSet, span}
use Rattle.rtps_wire.specs.Fields.{sn_text}
use Rattle.rtps_wire.specs.Names.{max_bits}

-- the lowest bits of a word, the highest of them first
unfoldable pub bits_below : ℕ → ℕ → List Bool
bits_below zero w = []
bits_below (suc n) w = (bit_and (w / 2 ^ n) 1 == 1) ∷ bits_below n w

-- the bits of a word, the highest first
abbrev pub word_bits : ℕ → List Bool
word_bits w = bits_below 32 w

-- a set as it stands in bytes: its base, how many bits count, and the words of bits
pub record SetField : Type 0 where
  pub base : ℕ
  pub num_bits : ℕ
  pub words : List ℕ

-- base, number of bits, words
abbrev pub set_text : Endianness → SetField → List ℕ
set_text order f = sn_text order f.base ++ number order w32 f.num_bits ++ flat_map (number order w32) f.words

-- a word for each 32 bits begun
abbrev pub words_for : ℕ → ℕ
words_for num_bits = (num_bits + 31) / 32

-- a valid set: a base from 1 to `max_sn`, at most `max_bits` bits, and their words
pub record IsSetField (f : SetField) : Type 0 where
  pub first : 1 ≤ f.base
  pub small : f.base ≤ max_sn
  pub few : f.num_bits ≤ max_bits
  pub enough : length f.words ≡ words_for f.num_bits
  pub each : AllByRecursion (λ w. w < 2 ^ 32) f.words

-- The set that it stands for: base + i is a member where bit i is set. Bits from the number of bits on are not looked
-- at.
unfoldable pub set_of : SetField → NumberSet
set_of f = record {
  base = f.base;
  members = take f.num_bits (flat_map word_bits f.words)
      ++ replicate (max_bits - f.num_bits) false;
}

-- The base of the set of an ACKNACK that has this base and number of bits in bytes: 0 stands for 1 where that number is
-- 0. Either says that all below 1 is acknowledged, which is nothing, and that nothing is missed. Where that number is not
-- 0, base 0 is not valid, though no bit be set.
abbrev pub acknack_base : ℕ → ℕ → ℕ
acknack_base base num_bits = if base == 0 && num_bits == 0 then 1 else base

-- the set of an ACKNACK as it is read, by how it stands in bytes
abbrev pub acknack_field : SetField → SetField
acknack_field f = record f { base = acknack_base f.base f.num_bits }

-- The bytes begin with a set, in whichever way it stands there.
pub record ReadsSet (order : Endianness) (bytes : List ℕ) (s : NumberSet) (rest : List ℕ) : Type 0 where
  pub field : SetField
  pub valid : IsSetField field
  pub text : bytes ≡ set_text order field ++ rest
  pub set : s ≡ set_of field

-- The bytes begin with the set of an ACKNACK. That is a valid set, or an empty one of base 0: its number of bits is 0.
pub record ReadsAckNackSet (order : Endianness) (bytes : List ℕ) (s : NumberSet) (rest : List ℕ) : Type 0 where
  pub field : SetField
  pub valid : IsSetField (acknack_field field)
  pub text : bytes ≡ set_text order field ++ rest
  pub set : s ≡ set_of (acknack_field field)

-- a set that has a written form
pub record IsSet (s : NumberSet) : Type 0 where
  pub first : 1 ≤ s.base
  pub small : s.base ≤ max_sn
  pub places : length s.members ≡ max_bits

-- ---- as written

-- the value of the first n of these bits, 0 where there is none
unfoldable pub word_of : ℕ → List Bool → ℕ
word_of zero bits = 0
word_of (suc n) bits = (if slice_index_or bits 0 false then 2 ^ n else 0) + word_of n (drop 1 bits)

-- the words of these bits
unfoldable pub words_of : ℕ → List Bool → List ℕ
words_of zero bits = []
words_of (suc n) bits = word_of 32 bits ∷ words_of n (drop 32 bits)

-- the least number of bits, in their words
abbrev pub set_field_of : NumberSet → SetField
set_field_of s = record {
  base = s.base;
  num_bits = span s.members;
  words = words_of (words_for (span s.members)) s.members;
}

-- the one written form of a set
abbrev pub text_of_set : NumberSet → List ℕ
text_of_set s = set_text Little (set_field_of s)
