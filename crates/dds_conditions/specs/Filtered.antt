-- What the filters of a peer answer, where they stand in a list.
--
-- DDS 1.4, 2.2.2.5 (QueryCondition).
use Rattle.std.specs.Prelude.{ℕ, ◌-◌, ◌==◌, Bool, false, List, Option, None, Some, slice_get, if◌then◌else◌}
use Rattle.dds_base.specs.declared.key.Key.{Key}

-- the filter of this number, from 1
abbrev pub filter_at : {F : Type 0} → List F → ℕ → Option F
filter_at filters number = if number == 0 then None else slice_get filters (number - 1)

-- what a filter that may be there answers
abbrev pub passes_by : {F : Type 0} → (F → Key → List ℕ → Bool) → Option F → Key → List ℕ → Bool
passes_by meaning None key value = false
passes_by meaning (Some filter) key value = meaning filter key value

-- what filters answer by their numbers; where there is none, no sample passes
abbrev pub tests_of : {F : Type 0} → (F → Key → List ℕ → Bool) → List F → ℕ → Key → List ℕ → Bool
tests_of meaning filters number key value = passes_by meaning (filter_at filters number) key value
