-- What a writer and a reader of a peer keep: what never changes, and what events change.
--
-- RTPS 2.5, 8.2 (Endpoint), 8.4.7 (StatefulWriter, ReaderProxy), 8.4.10 (StatefulReader, WriterProxy).
use Rattle.std.specs.Prelude.{ℕ, Bool, List}
use Rattle.dds_base.specs.declared.guid.EntityId.{EntityId}
use Rattle.rtps_reader.specs.Reader.{Proxies}
use Rattle.rtps_writer.specs.Standing.{Kept}
use Rattle.dds_ends.specs.Stored.{StoreKept}
use Rattle.dds_machine.specs.Part.{Seen}
use Rattle.dds_ends.specs.declared.match_counts.MatchCounts.{MatchCounts}
use Rattle.dds_ends.specs.declared.matching.Destination.{Destination}
use Rattle.dds_ends.specs.declared.matching.LastCount.{LastCount}
use Rattle.dds_ends.specs.declared.matching.ReaderName.{ReaderName}
use Rattle.dds_ends.specs.declared.matching.TopicName.{TopicName}
use Rattle.dds_ends.specs.declared.match_counts.MatchCounts.{MatchCounts}
use Rattle.dds_ends.specs.declared.matching.WriterName.{WriterName}

-- a writer: how long its values may be, the readers of its topic, its matched readers, to whose peers it sends, the
-- reliable ones by their names, what it keeps of those that were matched before, its matches, and what it keeps of its
-- changes and its reliable readers
pub record WriterKept : Type 0 where
  pub entity : EntityId
  pub autodispose : Bool
  pub max_value : ℕ
  pub known : List TopicName
  pub matched : List ReaderName
  pub destinations : List Destination
  pub readers : List ReaderName
  pub counts : List LastCount
  pub matches : MatchCounts
  pub writer : Kept

-- a reader: the writers of its topic, what it knows of them, what it stores, what was seen of its statuses, its
-- matches, and with how many writers it is matched now
pub record ReaderKept : Type 0 where
  pub entity : EntityId
  pub writers : List WriterName
  pub reader : Proxies
  pub store : StoreKept
  pub seen : Seen
  pub matches : MatchCounts
  pub here : ℕ
