-- How long a participant is taken to be there after it was last heard (RTPS 2.5, 8.5: SPDP; 9.6:
-- PID_PARTICIPANT_LEASE_DURATION).
use Rattle.std.specs.Prelude.{ℕ, ◌*◌, ◌^◌, min, max, unwrap_or}
use Rattle.dds_base.specs.Policies.{units_of}
use Rattle.dds_base.specs.declared.duration.Duration.{Duration}

-- a second, in units of 2^-32 second
abbrev pub second : ℕ
second = 2 ^ 32

-- at least a second and at most 300 seconds, whatever is announced: so no row stays for good, and none goes at once
abbrev pub taken_lease : Duration → ℕ
taken_lease lease = max second (min (300 * second) (unwrap_or (units_of lease) (300 * second)))
