-- When the communication statuses of a reader were raised last.
--
-- DDS 1.4, 2.2.4.1 (DATA_AVAILABLE, LIVELINESS_CHANGED), 2.2.4.2 (changes in status).
use Rattle.std.specs.Prelude.{ℕ, ◌+◌, List, [], ◌∷◌, length, Option, Some, None, Bool, false, ◌==◌, nat_lt, if◌then◌else◌}
use Rattle.std.specs.List.{list_any}
use Rattle.dds_base.specs.declared.happening.Happening.{Happening}
use Rattle.dds_base.specs.declared.happening.Happening.TheVariants.{Read, Took}
use Rattle.dds_base.specs.declared.happening.SamplePosition.{SamplePosition}
use Rattle.dds_base.specs.declared.qos.ReaderQos.{ReaderQos}
use Rattle.dds_base.specs.Liveliness.{turns_alive}
use Rattle.dds_base.specs.Presence.{present_samples}

-- the newest entry has brought a sample: it is a write that was accepted, or an instance is alive no more by it
abbrev pub brings_sample : ReaderQos → List Happening → Bool
brings_sample q h = list_any (λ (s : SamplePosition). s.position == length h) (present_samples q h)

-- the position of the newest entry that brought a sample, if there is one and no read or take has followed it
abbrev pub data_available_at : ReaderQos → List Happening → Option ℕ
data_available_at q [] = None
data_available_at q (Read samples ∷ h) = None
data_available_at q (Took samples ∷ h) = None
data_available_at q (e ∷ h) = if brings_sample q (e ∷ h) then Some (length h + 1) else data_available_at q h

-- the position of the newest entry that changed how many writers are alive, or not alive, if there is one
abbrev pub turned_at : List Happening → Option ℕ
turned_at [] = None
turned_at (e ∷ h) = if turns_alive h e then Some (length h + 1) else turned_at h

-- there is such an entry, and it came after the first n
abbrev pub is_after : ℕ → Option ℕ → Bool
is_after n None = false
is_after n (Some position) = nat_lt n position
