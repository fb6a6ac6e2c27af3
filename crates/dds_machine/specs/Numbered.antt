-- Lists whose elements are numbered from 1.
--
-- No clause has these numbers: peers, writers, readers and packets go by them here. GUIDs are in RTPS 2.5, 8.2.
use Rattle.std.specs.Prelude.{ℕ, zero, suc, ◌≤◌, List, get_or, set, length, Bool}
use Rattle.dds_base.specs.Number.{is_number}

-- the element of this number, or the one given where there is none
abbrev pub numbered : {X : Type 0} → List X → ℕ → X → X
numbered xs zero none = none
numbered xs (suc n) none = get_or xs n none

-- the list with another element of this number
abbrev pub with_numbered : {X : Type 0} → List X → ℕ → X → List X
with_numbered xs zero x = xs
with_numbered xs (suc n) x = set xs n x

-- there is an element of this number
abbrev pub HasNumber : {X : Type 0} → List X → ℕ → Type 0
HasNumber xs n = (1 ≤ n) × (n ≤ length xs)

-- so it is, as a test
abbrev pub has_element : {X : Type 0} → List X → ℕ → Bool
has_element xs n = is_number n (length xs)
