-- What stays of what a writer and a reader keep, and what the roster says of it. Inner functions alone cite
-- this: nothing here has to be believed.
--
-- RTPS 2.5, 8.2 (Endpoint).
use Rattle.std.specs.Prelude.{◌≡◌, ◌≤◌, ℕ, Bool, List, length, map, Some}
use Rattle.dds_base.specs.declared.config.PeerConfig.{PeerConfig}
use Rattle.dds_base.specs.declared.config.WriterConfig.{WriterConfig}
use Rattle.dds_base.specs.declared.config.ReaderConfig.{ReaderConfig}
use Rattle.dds_base.specs.declared.endpoint.Endpoint.{Endpoint}
use Rattle.dds_base.specs.declared.guid.EntityId.{EntityId}
use Rattle.dds_base.specs.Matched.{is_reliable, is_reliable_reader}
use Rattle.dds_cache.specs.Standing.{qos_of}
use Rattle.dds_lease.specs.Standing.{writer_count}
use Rattle.rtps_reader.specs.Reader.{Proxies, count_of}
use Rattle.dds_machine.specs.Matching.{max_known}
use Rattle.dds_protocol.specs.Roster.{Roster}
use Rattle.dds_ends.specs.Stored.{StoreKept}
use Rattle.dds_ends.specs.declared.matching.Destination.{Destination}
use Rattle.dds_ends.specs.declared.matching.LastCount.{LastCount}
use Rattle.dds_ends.specs.declared.matching.ReaderName.{ReaderName}
use Rattle.dds_ends.specs.declared.matching.TopicName.{TopicName}
use Rattle.dds_ends.specs.declared.matching.WriterName.{WriterName}
use Rattle.dds_ends.specs.Matching.{destinations}
use Rattle.dds_ends.specs.MatchedEnds.{AreKnownReaders, AreKnownWriters, AreMatchedNow, first_count}
use Rattle.dds_ends.specs.EndNames.{all_names, reader_names, topic_names, writer_names}
use Rattle.dds_ends.specs.Kept.{WriterKept, ReaderKept}

-- the store is that of a reliable reader, by its policies
abbrev pub reliable_in : StoreKept → Bool
reliable_in store = is_reliable (qos_of store.cache).reliability

-- each writer that it knows is one that the store counts, in the same order, of which there are no more than can be; by the
-- policies the reader is a reliable one or not
pub record FitsWriters (names : List WriterName) (reader : Proxies) (store : StoreKept) (reliable : Bool) : Type 0 where
  pub policy : reliable_in store ≡ reliable
  pub count : count_of reader ≡ length names
  pub fits : writer_count store.leases ≡ length names
  pub many : length names ≤ max_known

-- what stays of a writer while nobody comes or goes: its name, whether an unregister disposes too and how long its values
-- may be, which never change; the readers of its topic that it knows; and whom it is matched with, to which peers it
-- sends, the names of its reliable readers, and the last counts of those that were matched before
pub record WriterIdentity : Type 0 where
  pub entity : EntityId
  pub autodispose : Bool
  pub max_value : ℕ
  pub known : List TopicName
  pub matched : List ReaderName
  pub destinations : List Destination
  pub readers : List ReaderName
  pub counts : List LastCount

-- what stays of a reader while nobody comes: its name, those of the writers that it knows, and whether it is a reliable one
pub record ReaderIdentity : Type 0 where
  pub entity : EntityId
  pub writers : List WriterName
  pub reliable : Bool

-- what stays of this writer
abbrev pub writer_identity : WriterKept → WriterIdentity
writer_identity w = record {
  entity = w.entity;
  autodispose = w.autodispose;
  max_value = w.max_value;
  known = w.known;
  matched = w.matched;
  destinations = w.destinations;
  readers = w.readers;
  counts = w.counts;
}

-- what stays of this reader
abbrev pub reader_identity : ReaderKept → ReaderIdentity
reader_identity r =
    record { entity = r.entity; writers = r.writers; reliable = reliable_in r.store }

-- a writer at its opening, as the configuration says it; the first of these peers has this number
abbrev pub configured_writer : ℕ → List PeerConfig → WriterConfig → WriterIdentity
configured_writer first peers w =
    record {
      entity = w.entity;
      autodispose = w.autodispose;
      max_value = w.max_value;
      known = topic_names w.topic first peers;
      matched = all_names w.topic first peers;
      destinations = destinations w.topic first peers;
      readers = reader_names w.topic first peers;
      counts = map first_count (reader_names w.topic first peers);
    }

-- a writer of the roster, with those that it is matched with now
pub record IsWriterOf (roster : Roster) (writer : Endpoint) (is : WriterIdentity) : Type 0 where
  pub entity : roster.writers writer ≡ Some is.entity
  pub known : AreKnownReaders roster writer is.known
  pub ends : AreMatchedNow roster writer is.matched is.destinations is.readers

-- a reader of the roster, with the writers that it knows
pub record IsReaderOf (roster : Roster) (reader : Endpoint) (is : ReaderIdentity) : Type 0 where
  pub entity : roster.readers reader ≡ Some is.entity
  pub reliable : roster.is_reliable reader ≡ is.reliable
  pub writers : AreKnownWriters roster reader is.writers

-- a reader at its opening, likewise
abbrev pub configured_reader : ℕ → List PeerConfig → ReaderConfig → ReaderIdentity
configured_reader first peers r =
    record { entity = r.entity; writers = writer_names r.topic first peers; reliable = is_reliable_reader r }
