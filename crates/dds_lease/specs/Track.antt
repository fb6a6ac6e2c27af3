-- What is known of the liveliness of one matched writer. Inner functions alone cite this: nothing here has to be
-- believed.
--
-- DDS 1.4, 2.2.3 (LIVELINESS: lease_duration), 2.2.4.1 (LIVELINESS_CHANGED).
use Rattle.std.specs.Prelude.{ℕ, ◌+◌, Bool, false, ◌&&◌, not, nat_lt, List, [], ◌∷◌, Option, Some, None, is_some, if◌then◌else◌}
use Rattle.dds_base.specs.declared.happening.Happening.{Happening}
use Rattle.dds_base.specs.declared.qos.MatchedWriter.{MatchedWriter}
use Rattle.dds_base.specs.declared.qos.ReaderQos.{ReaderQos}
use Rattle.dds_base.specs.Ownership.{writer_of, writers_of}
use Rattle.dds_base.specs.Liveliness.{alive_since, has_died, lease_of}
use Rattle.dds_lease.specs.declared.track.LeaseTrack.{LeaseTrack}
use Rattle.dds_lease.specs.Overdue.{is_over_at}

-- what is known of a writer after this happened
abbrev pub track_of : ReaderQos → List Happening → ℕ → LeaseTrack
track_of q h w = record {
  lease = lease_of (writer_of (writers_of q h) w);
  since = alive_since w h;
  has_died = has_died w h;
}

-- a writer of which nothing was heard
abbrev pub fresh : MatchedWriter → LeaseTrack
fresh writer = record { lease = writer.lease; since = None; has_died = false }

-- it is alive
abbrev pub is_live_track : LeaseTrack → Bool
is_live_track t = is_some t.since

-- it died, and is not alive
abbrev pub is_dead_track : LeaseTrack → Bool
is_dead_track t = t.has_died && not (is_some t.since)

-- the number of the first above this one whose lease is over, where these have the numbers from k on
abbrev pub first_over : ℕ → ℕ → ℕ → List LeaseTrack → Option ℕ
first_over after now k [] = None
first_over after now k (t ∷ ts) =
    if nat_lt after k && is_over_at now t then Some k else first_over after now (k + 1) ts
