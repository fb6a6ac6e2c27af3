-- What the communication statuses of a reader say.
--
-- DDS 1.4, 2.2.4.1 (SAMPLE_LOST).
use Rattle.std.specs.Prelude.{ℕ, ◌+◌, ◌-◌, ◌^◌, min, List, [], ◌∷◌}
use Rattle.dds_base.specs.declared.happening.Happening.{Happening}
use Rattle.dds_base.specs.declared.happening.Happening.TheVariants.{Passed}
use Rattle.dds_base.specs.declared.status.SampleLostStatus.{SampleLostStatus}

-- how many changes were passed over
abbrev pub passed_over : List Happening → ℕ
passed_over [] = 0
passed_over (Passed writer first last ∷ h) = passed_over h + (last + 1 - first)
passed_over (_ ∷ h) = passed_over h

-- the total of SAMPLE_LOST, which has 64 bits and stays at its greatest number
abbrev pub lost_count : List Happening → ℕ
lost_count h = min (passed_over h) (2 ^ 64 - 1)

-- SAMPLE_LOST after this happened, where its total was so many when it was looked at last
abbrev pub sample_lost_status : List Happening → ℕ → SampleLostStatus
sample_lost_status h seen = record { total_count = lost_count h; total_count_change = lost_count h - seen }
