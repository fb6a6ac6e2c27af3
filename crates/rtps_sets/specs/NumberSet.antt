-- Sets of numbers that lie within 256 numbers from a base on (RTPS 2.5, 8.3.5.5: SequenceNumberSet).
use Rattle.std.specs.Prelude.{ℕ, zero, suc, ◌-◌, ◌&&◌, Bool, true, false, List, [], ◌∷◌, nat_le, replicate, slice_index_or}
use Rattle.dds_base.specs.Bounds.{window_width}

-- the base, and for each number from it on whether that is a member
pub record NumberSet : Type 0 where
  pub base : ℕ
  pub members : List Bool

-- whether n is a member: not below the base, nor past the last place
abbrev pub has_number : NumberSet → ℕ → Bool
has_number s n = nat_le s.base n && slice_index_or s.members (n - s.base) false

-- the set that has no member
abbrev pub empty_from : ℕ → NumberSet
empty_from base = record { base = base; members = replicate window_width false }

-- the span with one more place in front of it
abbrev pub span_after : Bool → ℕ → ℕ
span_after true n = suc n
span_after false zero = 0
span_after false (suc n) = suc (suc n)

-- one more than the place of the last member, or 0 where there is none
abbrev pub span : List Bool → ℕ
span [] = 0
span (b ∷ bs) = span_after b (span bs)
