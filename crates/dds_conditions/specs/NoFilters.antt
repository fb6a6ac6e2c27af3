-- What no filters mean.
--
-- DDS 1.4, 2.2.2.5 (QueryCondition).
use Rattle.std.specs.Prelude.{ℕ, List, Bool, false}
use Rattle.dds_base.specs.declared.key.Key.{Key}

-- where there are none, no sample passes
abbrev pub no_filters : ℕ → Key → List ℕ → Bool
no_filters filter key value = false
