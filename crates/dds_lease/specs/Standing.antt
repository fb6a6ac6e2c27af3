-- When what is kept of the leases of a reader's matched writers stands for what happened at that reader.
--
-- DDS 1.4, 2.2.3 (LIVELINESS), 2.2.4.1 (LIVELINESS_CHANGED).
use Rattle.std.specs.Prelude.{◌≡◌, ℕ, ◌-◌, List, count_by, length, map, filter, nat_lt, take}
use Rattle.dds_base.specs.declared.happening.Happening.{Happening}
use Rattle.dds_base.specs.declared.qos.ReaderQos.{ReaderQos}
use Rattle.dds_base.specs.Ownership.{AreOfMatched, publication_handles}
use Rattle.dds_base.specs.Liveliness.{dead_at, last_turned, with_deaths}
use Rattle.dds_lease.specs.declared.track.LeaseTrack.{LeaseTrack}
use Rattle.dds_lease.specs.Track.{track_of}
use Rattle.dds_lease.specs.Overdue.{is_over_at}

-- what is kept; callers see it through writer_count, overdue_of, without_last and StandsFor
pub record Kept : Type 0 where
  pub tracks : List LeaseTrack
  pub last_turned : ℕ

-- how many writers are matched
abbrev pub writer_count : Kept → ℕ
writer_count kept = length kept.tracks

-- what is kept, but for the last writer
abbrev pub without_last : Kept → Kept
without_last kept = record kept { tracks = take (length kept.tracks - 1) kept.tracks }

-- how many leases are over at this moment
abbrev pub overdue_of : Kept → ℕ → ℕ
overdue_of kept now = count_by (is_over_at now) kept.tracks

-- what happened at a reader of these policies that this stands for
pub record StandsFor (kept : Kept) (q : ReaderQos) (h : List Happening) : Type 0 where
  pub tracks : kept.tracks ≡ map (track_of q h) (publication_handles q h)
  pub last_turned : kept.last_turned ≡ last_turned h
  pub matched : AreOfMatched q h

-- what has happened once those of the handles above this one died in turn that die at this moment
abbrev pub after_deaths_above : ReaderQos → ℕ → ℕ → List Happening → List Happening
after_deaths_above q now after h = with_deaths now (filter (nat_lt after) (dead_at q now h)) h
