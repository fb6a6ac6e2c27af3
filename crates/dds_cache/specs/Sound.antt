-- What is true of a cache as it is kept. Inner functions alone cite this: nothing here has to be believed.
--
-- What it is a cache for is in DDS 1.4, 2.2.2.5 (read, take), and RTPS 2.5, 8.2 (HistoryCache of a reader); memory
-- and its room are this project's own.
use Rattle.std.specs.Prelude.{◌≤◌, ◌+◌, ◌*◌, All, vec_len, vec_capacity}
use Rattle.dds_cache.specs.declared.reader_cache.ReaderCache.TheInside.{Inside}
use Rattle.dds_cache.specs.Standing.{Stored}
use Rattle.dds_cache.specs.Finding.{IsSmall}
use Rattle.dds_cache.specs.Kept.{IsSummary}
use Rattle.dds_instances.specs.Table.{alive_of, room_of}

-- what a contract sees of a cache
abbrev pub stored_of : Inside → Stored
stored_of a = record {
  qos = a.qos;
  instances = a.instances;
  samples = a.samples.items;
  arrivals = a.arrivals;
  room = a.room;
  data_at = a.data_at;
}

-- there is memory for so many more entries, each of which may leave a sample and make an instance alive; each instance
-- that is alive has a place for the sample that its end leaves; the counts of each kept sample can be added; and what
-- is known of the kept samples together is right
pub record IsSound (a : Inside) : Type 0 where
  pub instances : a.room ≤ room_of a.instances
  pub samples : vec_len a.samples + 2 * a.room + alive_of a.instances ≤ vec_capacity a.samples
  pub small : All IsSmall a.samples.items
  pub counted : IsSummary a.samples.items a.summary
