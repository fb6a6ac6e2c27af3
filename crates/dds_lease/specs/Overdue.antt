-- When the lease of a matched writer is over.
--
-- DDS 1.4, 2.2.3 (LIVELINESS: lease_duration).
use Rattle.std.specs.Prelude.{ℕ, Bool}
use Rattle.dds_base.specs.Written.{is_over}
use Rattle.dds_lease.specs.declared.track.LeaseTrack.{LeaseTrack}

-- its lease is over at this moment
abbrev pub is_over_at : ℕ → LeaseTrack → Bool
is_over_at now t = is_over t.lease t.since now
