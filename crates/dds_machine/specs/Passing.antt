-- When changes were last passed over at a reader.
--
-- DDS 1.4, 2.2.4.1 (SAMPLE_LOST), 2.2.4.2 (changes in status).
use Rattle.std.specs.Prelude.{ℕ, ◌+◌, List, [], ◌∷◌, length, Option, None, Some}
use Rattle.dds_base.specs.declared.happening.Happening.{Happening}
use Rattle.dds_base.specs.declared.happening.Happening.TheVariants.{Passed}

-- the position of the newest entry by which changes were passed over, if there is one
abbrev pub passed_at : List Happening → Option ℕ
passed_at [] = None
passed_at (Passed writer first last ∷ h) = Some (length h + 1)
passed_at (_ ∷ h) = passed_at h
