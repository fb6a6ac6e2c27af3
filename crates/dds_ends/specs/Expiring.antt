-- The deaths of a tick at a peer's readers, by what the peer keeps. Inner functions alone cite this: nothing here has
-- to be believed.
--
-- DDS 1.4, 2.2.3 (LIVELINESS: lease_duration).
use Rattle.std.specs.Prelude.{◌≡◌, ℕ, ◌+◌, ◌-◌, ◌^◌, ◌<◌, ◌≤◌, List, All, length, slice_get, Some}
use Rattle.dds_base.specs.Liveliness.{dead_at}
use Rattle.dds_cache.specs.Standing.{deaths_of}
use Rattle.dds_lease.specs.Standing.{overdue_of}
use Rattle.dds_base.specs.declared.endpoint.Endpoint.{Endpoint}
use Rattle.dds_machine.specs.Ticks.{reader_ticked}
use Rattle.dds_machine.specs.Part.{Reader, WriterProxy}
use Rattle.rtps_reader.specs.Tracked.{Tracked}
use Rattle.dds_ends.specs.Kept.{ReaderKept}
use Rattle.dds_ends.specs.Identity.{reader_identity}
use Rattle.dds_ends.specs.Standing.{ReaderStands}
use Rattle.dds_ends.specs.Stored.{StoreKept}

-- all that die at this moment can be counted
abbrev pub HasRoomForDeaths : ℕ → StoreKept → Type 0
HasRoomForDeaths now store = overdue_of store.leases now ≤ deaths_of store.cache

-- so it is at each of these readers
abbrev pub HaveRoomForDeaths : ℕ → List ReaderKept → Type 0
HaveRoomForDeaths now readers = All (λ (r : ReaderKept). HasRoomForDeaths now r.store) readers

-- a reader at which those died that die at this moment, and nothing else happened
pub record Expires (old : ReaderKept) (now : ℕ) (new : ReaderKept) : Type 0 where
  pub same : reader_identity new ≡ reader_identity old
  pub stands : (proxies : List WriterProxy) (r : Reader) (tracked : Endpoint → Tracked)
      → ReaderStands old proxies r tracked
      → ReaderStands new proxies (reader_ticked now r) tracked

-- the same of each of these readers
pub record AllExpire (old : List ReaderKept) (now : ℕ) (new : List ReaderKept) : Type 0 where
  pub count : length new ≡ length old
  pub each : (i : ℕ) (a b : ReaderKept) → slice_get old i ≡ Some a → slice_get new i ≡ Some b → Expires a now b

-- more would have happened at the reader by the deaths of this moment than can be counted
abbrev pub IsPastCounting : ReaderKept → ℕ → Type 0
IsPastCounting kept now = (proxies : List WriterProxy) (r : Reader) (tracked : Endpoint → Tracked)
    → ReaderStands kept proxies r tracked → 2 ^ 64 - 1 < length r.happened + length (dead_at r.qos now r.happened)

-- so it is at one of these readers
pub record HasPastCounting (readers : List ReaderKept) (now : ℕ) : Type 0 where
  pub index : ℕ
  pub reader : ReaderKept
  pub at : slice_get readers index ≡ Some reader
  pub past : IsPastCounting reader now
