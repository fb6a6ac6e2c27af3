-- Times in units of 2^-32 second (RTPS 2.5, 9.3.2: Time_t).
use Rattle.std.specs.Prelude.{ℕ, ◌+◌, ◌-◌, ◌*◌, ◌/◌, ◌^◌, min}
use Rattle.std.specs.Duration.{as_nanos}
use Rattle.std.specs.declared.time.Duration.{Duration}
use Rattle.dds_live.specs.declared.moments.Moments.{Moments}

-- a number, where it has 64 bits; else the greatest that has
abbrev pub at_most_64_bits : ℕ → ℕ
at_most_64_bits n = min n (2 ^ 64 - 1)

-- so many nanoseconds, in units of 2^-32 second, rounded down
abbrev pub units : Duration → ℕ
units time = at_most_64_bits (as_nanos time * 2 ^ 32 / 1000000000)

-- so long after we began, which was a moment of the wall clock
abbrev pub moment_after : Moments → Duration → ℕ
moment_after m elapsed = at_most_64_bits (m.since_1970 + units elapsed)
