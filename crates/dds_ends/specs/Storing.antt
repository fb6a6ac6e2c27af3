-- What happened at a reader by what it stores. Inner functions alone cite this: nothing here has to be believed.
--
-- RTPS 2.5, 8.2 (HistoryCache of a reader); DDS 1.4, 2.2.3 (LIVELINESS), 2.2.4.1 (SAMPLE_LOST,
-- LIVELINESS_CHANGED).
use Rattle.std.specs.Prelude.{◌≡◌, ℕ, ◌+◌, ◌-◌, ◌^◌, min, List}
use Rattle.dds_base.specs.declared.happening.Happening.{Happening}
use Rattle.dds_base.specs.Statuses.{lost_count}
use Rattle.dds_base.specs.StatusFlags.{turned_at}
use Rattle.dds_cache.specs.Standing.{StandsFor as CacheStandsFor, qos_of}
use Rattle.dds_machine.specs.Passing.{passed_at}
use Rattle.dds_lease.specs.Standing.{StandsFor as LeasesStandFor}
use Rattle.dds_ends.specs.Stored.{StoreKept}

-- this happened at the reader
pub record Holds (s : StoreKept) (h : List Happening) : Type 0 where
  pub cache : CacheStandsFor s.cache h
  pub leases : LeasesStandFor s.leases (qos_of s.cache) h
  pub lost_is : s.lost ≡ lost_count h
  pub passed_is : s.passed ≡ passed_at h
  pub turned_is : s.turned ≡ turned_at h

-- the changes from the first to the last were passed over besides, up to the bound
abbrev pub Loses : ℕ → ℕ → ℕ → ℕ → Type 0
Loses old first last new = new ≡ min (old + (last + 1 - first)) (2 ^ 64 - 1)
