-- What a reader that asks for changes is answered (RTPS 2.5, 8.4.7: ReaderProxy, requested_changes; 8.3.8: Data, Gap).
use Rattle.std.specs.Prelude.{◌≡◌, ◌≤◌, ℕ, ◌+◌, ◌==◌, ◌&&◌, Bool, true, false, List, [], ◌∷◌, filter, max, nat_le, nat_lt, if◌then◌else◌}
use Rattle.dds_base.specs.Bounds.{window_width}
use Rattle.dds_base.specs.Kept.{numbers_from}
use Rattle.rtps_sets.specs.NumberSet.{NumberSet, has_number}
use Rattle.rtps_writer.specs.declared.answer.Answer.{Answer}
use Rattle.rtps_writer.specs.declared.answer.Answer.TheVariants.{Data, Gap}

-- the number is a member of the set, and lies from one number to another
abbrev pub is_requested : NumberSet → ℕ → ℕ → ℕ → Bool
is_requested set from to n = has_number set n && (nat_le from n && nat_le n to)

-- the members of a set from one number to another, in order: a set has places for 256 numbers
abbrev pub requested : NumberSet → ℕ → ℕ → List ℕ
requested set from to = filter (is_requested set from to) (numbers_from set.base window_width)

-- The number from which on an ACKNACK of this base is answered. What is acknowledged is not answered again; but where the
-- reader is not owed all, and the base lies below what it is owed, it is answered from the base on: so one whose place is
-- too low is told so, and goes on.
abbrev pub answered_from : (owed acknowledged base : ℕ) → ℕ
answered_from owed acknowledged base =
    if nat_lt 1 owed && nat_lt base owed then base else max acknowledged base

-- the answers with a GAP of this number before them, which is one with a GAP that begins with the next number
abbrev pub gap_before : ℕ → List Answer → List Answer
gap_before n (Gap first last ∷ rest) = if first == n + 1 then Gap n last ∷ rest else Gap n n ∷ Gap first last ∷ rest
gap_before n rest = Gap n n ∷ rest

-- the answers with the answer for this number before them
abbrev pub answer_before : Bool → ℕ → List Answer → List Answer
answer_before is_kept n rest = if is_kept then Data n ∷ rest else gap_before n rest

-- the answers for these numbers: the change of each that is kept, and a GAP for each run of others
abbrev pub answers_to : (ℕ → Bool) → List ℕ → List Answer
answers_to kept [] = []
answers_to kept (n ∷ ns) = answer_before (kept n) n (answers_to kept ns)

-- the answer is right: the number of a DATA is kept, a GAP has a number at least and none of its numbers is kept, and
-- each of them was asked for
abbrev pub IsRight : (ℕ → Bool) → (ℕ → Type 0) → Answer → Type 0
IsRight kept IsAsked (Data n) = (kept n ≡ true) × IsAsked n
IsRight kept IsAsked (Gap first last) = (first ≤ last) × ((n : ℕ) → first ≤ n → n ≤ last → (kept n ≡ false) × IsAsked n)

-- each number of a GAP is such a one
abbrev pub GapsAre : (ℕ → Type 0) → Answer → Type 0
GapsAre P (Data n) = Unit {0}
GapsAre P (Gap first last) = (n : ℕ) → first ≤ n → n ≤ last → P n

-- the answer is for this number
abbrev pub is_answer_to : ℕ → Answer → Bool
is_answer_to n (Data m) = m == n
is_answer_to n (Gap first last) = nat_le first n && nat_le n last

-- the number is a member of the set, and lies from one number to another
abbrev pub IsBetween : NumberSet → ℕ → ℕ → ℕ → Type 0
IsBetween set from to n = (from ≤ n) × (n ≤ to) × (has_number set n ≡ true)
