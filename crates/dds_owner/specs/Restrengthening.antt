-- How often the strengths of a reader's matched writers changed. Inner functions alone cite this: nothing here has to be
-- believed.
--
-- DDS 1.4, 2.2.3 (OWNERSHIP_STRENGTH).
use Rattle.std.specs.Prelude.{ℕ, suc, ◌-◌, ◌^◌, ℤ, List, [], ◌∷◌, Bool, true, false, not, Option, Some, None, if◌then◌else◌}
use Rattle.std.specs.Ordering.{int_eq}
use Rattle.dds_base.specs.declared.happening.Happening.{Happening}
use Rattle.dds_base.specs.declared.happening.Happening.TheVariants.{Came}
use Rattle.dds_base.specs.Ownership.{told_strength}

-- as many changes are not counted any more
abbrev pub MAX_CHANGES : ℕ
MAX_CHANGES = 2 ^ 64 - 1

-- a change with this strength gives its writer another one than it was told to have
abbrev pub is_new_strength : Option ℤ → Option ℤ → Bool
is_new_strength None told = false
is_new_strength (Some s) None = true
is_new_strength (Some s) (Some t) = not (int_eq s t)

-- how often a change came that gave its writer another strength
abbrev pub strength_changes : List Happening → ℕ
strength_changes [] = 0
strength_changes (Came a ∷ h) =
    if is_new_strength a.change.strength (told_strength a.writer h) then suc (strength_changes h) else strength_changes h
strength_changes (_ ∷ h) = strength_changes h
