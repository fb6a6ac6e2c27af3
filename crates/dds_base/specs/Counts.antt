-- The counts of HEARTBEATs, and of ACKNACKs: one that is not greater than the last is a repetition (RTPS 2.5, 8.3.8,
-- count).
use Rattle.std.specs.Prelude.{ℤ, Bool, true, int_lt, Option, Some, None}

-- a count is greater than the last one that was accepted; the first always is
abbrev pub is_later : Option ℤ → ℤ → Bool
is_later None count = true
is_later (Some last) count = int_lt last count
