-- What a reader stores.
--
-- RTPS 2.5, 8.2 (HistoryCache of a reader); DDS 1.4, 2.2.3 (LIVELINESS), 2.2.4.1 (SAMPLE_LOST,
-- LIVELINESS_CHANGED).
use Rattle.std.specs.Prelude.{ℕ, Option}
use Rattle.dds_cache.specs.Standing.{Stored}
use Rattle.dds_lease.specs.Standing.{Kept as Leased}

-- how many changes were passed over, up to a bound; the positions of the newest entry by which some were, and of the
-- newest that changed how many writers are alive or not alive, if there is one; the leases of the matched writers; and
-- the cache
pub record StoreKept : Type 0 where
  pub lost : ℕ
  pub passed : Option ℕ
  pub turned : Option ℕ
  pub leases : Leased
  pub cache : Stored
