-- What words announce of a writer or a reader (DDS 1.4, 2.2.3: supported QoS).
use Rattle.std.specs.Prelude.{ℕ, ◌-◌, ◌/◌, ◌^◌, List, Option, Some, None, nat_lt, if◌then◌else◌}
use Rattle.dds_base.specs.Fields.{◌>>=◌}
use Rattle.dds_base.specs.Policies.{lasting}
use Rattle.dds_base.specs.declared.duration.Duration.{Duration}
use Rattle.dds_script.specs.Numbers.{units_said}

-- a time of less than 2^31 - 1 seconds, as it is announced; a longer one is none (RTPS 2.5, 9.3.2: Duration_t)
abbrev pub duration_of : List ℕ → Option Duration
duration_of word = units_said word >>= λ units.
    if nat_lt (units / 2 ^ 32) (2 ^ 31 - 1) then Some (lasting (Some units)) else None
