-- Numbers that count from 1: of peers, of their writers and readers, of conditions and WaitSets.
--
-- The standards name entities otherwise; that they have numbers is this project's own.
use Rattle.std.specs.Prelude.{ℕ, ◌-◌, ◌==◌, Bool, ◌&&◌, nat_lt, nat_le, if◌then◌else◌, List, get_or, Option, None}

-- there is something of this number among so many
abbrev pub is_number : ℕ → ℕ → Bool
is_number n count = nat_lt 0 n && nat_le n count

-- what stands with this number, if anything does
abbrev pub at_number : {X : Type 0} → List (Option X) → ℕ → Option X
at_number xs n = if n == 0 then None else get_or xs (n - 1) None
