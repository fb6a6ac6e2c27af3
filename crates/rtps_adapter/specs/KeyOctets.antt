-- The octets of key fields, while they are put together. Inner functions alone cite this: nothing here has to be
-- believed.
use Rattle.std.specs.Prelude.{◌≡◌, ℕ, Bool, List, ◌++◌, length, take, replicate, Option, None, Some, MatchBool}
use Rattle.dds_base.specs.declared.endianness.Endianness.{Endianness}
use Rattle.md5.specs.Md5.{Holds}
use Rattle.rtps_adapter.specs.declared.key.KeyOctets.{KeyOctets}
use Rattle.rtps_adapter.specs.declared.kinds.Encoding.{Encoding}
use Rattle.rtps_adapter.specs.declared.kinds.KeyField.{KeyField}
use Rattle.rtps_adapter.specs.Keys.{aligned_to, alignment_of, number_in, place_of, size_of}

-- These are the octets.
pub record AreSoFar (k : KeyOctets) (octets : List ℕ) : Type 0 where
  pub len : k.len ≡ length octets
  pub first : k.first ≡ take 16 (octets ++ replicate 16 0)
  pub hashed : Holds k.hasher octets

-- the key field of a body behind the octets, aligned
abbrev pub next_in : Bool → Encoding → Endianness → List ℕ → KeyField → List ℕ → Option (List ℕ)
next_in is_key encoding order body f octets =
    number_in order (place_of is_key f (aligned_to (alignment_of encoding f.size) octets)) (size_of f.size) body

-- It was put there, or the body has none.
abbrev pub Continues : Bool → Encoding → Endianness → List ℕ → KeyField → List ℕ → KeyOctets → Bool → Type 0
Continues is_key encoding order body f octets k has =
    MatchBool has
    ((x : List ℕ) × (next_in is_key encoding order body f octets ≡ Some x)
    × AreSoFar k (aligned_to (alignment_of encoding f.size) octets ++ x))
    (next_in is_key encoding order body f octets ≡ None)
