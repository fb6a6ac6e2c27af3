-- By which names a reader knows the writers that it is matched with, and a writer its readers. Inner functions alone
-- cite this: nothing here has to be believed.
--
-- RTPS 2.5, 8.4.7 (ReaderProxy), 8.4.10 (WriterProxy).
use Rattle.std.specs.Prelude.{ℕ, List}
use Rattle.dds_base.specs.declared.config.PeerConfig.{PeerConfig}
use Rattle.dds_base.specs.declared.config.ReaderConfig.{ReaderConfig}
use Rattle.dds_base.specs.Matched.{any_reader, is_reliable_reader, of_ends_in, of_matched_readers, of_matched_writers, of_reliable_readers}
use Rattle.dds_base.specs.declared.config.WriterConfig.{WriterConfig}
use Rattle.dds_base.specs.declared.qos.MatchedWriter.{MatchedWriter}
use Rattle.dds_ends.specs.declared.matching.ReaderName.{ReaderName}
use Rattle.dds_ends.specs.declared.matching.TopicName.{TopicName}
use Rattle.dds_ends.specs.declared.matching.WriterName.{WriterName}

-- the name of a reader
abbrev pub reader_name : ℕ → PeerConfig → ℕ → ReaderConfig → ReaderName
reader_name peer p number r =
    record { reader = record { peer = peer; number = number }; guid = record { prefix = p.prefix; entity = r.entity } }

-- the name of a reader, and whether it is a reliable one
abbrev pub topic_name : ℕ → PeerConfig → ℕ → ReaderConfig → TopicName
topic_name peer p number r = record { name = reader_name peer p number r; is_reliable = is_reliable_reader r }

-- the readers of the topic among those of one peer, reliable or not; the first of these has this number
abbrev pub topic_names_in : ℕ → PeerConfig → ℕ → ℕ → List ReaderConfig → List TopicName
topic_names_in peer p topic number rs =
    of_ends_in any_reader (λ (r : ReaderConfig). r.topic) (topic_name peer p) topic number rs

-- the readers of the topic, and whether each is a reliable one, in the order of the configuration; the first of these
-- peers has this number
abbrev pub topic_names : ℕ → ℕ → List PeerConfig → List TopicName
topic_names topic first peers = of_matched_readers topic_name topic first peers

-- the readers of the topic, reliable or not, likewise
abbrev pub all_names : ℕ → ℕ → List PeerConfig → List ReaderName
all_names topic first peers = of_matched_readers reader_name topic first peers

-- the reliable readers of the topic, likewise
abbrev pub reader_names : ℕ → ℕ → List PeerConfig → List ReaderName
reader_names topic first peers = of_reliable_readers reader_name topic first peers

-- the name of a writer
abbrev pub writer_name : ℕ → PeerConfig → ℕ → WriterConfig → WriterName
writer_name peer p number w =
    record { writer = record { peer = peer; number = number }; guid = record { prefix = p.prefix; entity = w.entity } }

-- the writers of the topic, in the order of their publication handles; the first of these peers has this number
abbrev pub writer_names : ℕ → ℕ → List PeerConfig → List WriterName
writer_names topic first peers = of_matched_writers writer_name topic first peers

-- what a reader's QoS says of a matched writer
abbrev pub matched_writer : ℕ → PeerConfig → ℕ → WriterConfig → MatchedWriter
matched_writer peer p number w =
    record { guid = record { prefix = p.prefix; entity = w.entity }; strength = w.strength; lease = w.lease }
