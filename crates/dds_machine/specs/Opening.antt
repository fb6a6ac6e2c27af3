-- The opening of a configuration: writers and readers of equal topic are matched, nothing has happened, each place has
-- begun at 1, and nothing is acknowledged. A peer that comes later begins likewise, matched with its own ends alone.
--
-- DDS 1.4, 2.2.2.3, 2.2.3 (policies of matched entities); RTPS 2.5, 8.4.7 (matched_readers), 8.4.10
-- (matched_writers).
use Rattle.std.specs.Prelude.{ℕ, ◌+◌, Bool, true, List, [], ◌∷◌, ◌++◌, length, map, None}
use Rattle.dds_base.specs.declared.config.Config.{Config}
use Rattle.dds_base.specs.declared.config.PeerConfig.{PeerConfig}
use Rattle.dds_base.specs.declared.config.WriterConfig.{WriterConfig}
use Rattle.dds_base.specs.declared.config.ReaderConfig.{ReaderConfig}
use Rattle.dds_base.specs.declared.guid.EntityId.{EntityId}
use Rattle.dds_base.specs.declared.guid.GuidPrefix.{GuidPrefix}
use Rattle.dds_base.specs.declared.qos.MatchedWriter.{MatchedWriter}
use Rattle.dds_base.specs.declared.qos.ReaderQos.{ReaderQos}
use Rattle.dds_conditions.specs.Watched.{opened as nothing_watched}
use Rattle.dds_notices.specs.Listeners.{nobody}
use Rattle.dds_base.specs.Ownership.{carried}
use Rattle.dds_base.specs.Matched.{is_reliable_reader, of_matched_writers, of_matched_readers, of_reliable_readers}
use Rattle.dds_base.specs.declared.endpoint.Endpoint.{Endpoint}
use Rattle.dds_machine.specs.Part.{Name, ReaderProxy, TopicReader, WriterProxy, Begun, Writer, Reader, Part, nothing_seen, opened_with}
use Rattle.dds_base.specs.Checked.{limit_of}
use Rattle.dds_machine.specs.Machine.{Machine}

-- the matched readers of a writer of the topic; the first of these peers has this number
abbrev pub matched_readers : ℕ → ℕ → List PeerConfig → List Endpoint
matched_readers topic peer ps = of_matched_readers (λ i p n r. record { peer = i; number = n }) topic peer ps

-- the readers of the topic, and whether each is a reliable one; the first of these peers has this number
abbrev pub topic_readers : ℕ → ℕ → List PeerConfig → List TopicReader
topic_readers topic peer ps = of_matched_readers
    (λ i p n r. record { reader = record { peer = i; number = n }; reliable = is_reliable_reader r }) topic peer ps

-- what a writer of the topic has of its matched reliable readers; the first of these peers has this number
abbrev pub reliable_readers : ℕ → ℕ → List PeerConfig → List ReaderProxy
reliable_readers topic peer ps =
    of_reliable_readers (λ i p n r. record
    { reader = record { peer = i; number = n }; first = 1; acknowledged = 1 }) topic peer ps

-- what a reader of the topic has of its matched writers, in the order of publication handles; the first of these peers
-- has this number
abbrev pub matched_writers : ℕ → ℕ → List PeerConfig → List WriterProxy
matched_writers topic peer ps =
    of_matched_writers (λ i p n w. record
    { writer = record { peer = i; number = n }; place = 1; heard = None; how = Begun }) topic peer ps

-- the names of ends of a peer, by their entities and by which of them are reliable; the first of them has this number
abbrev pub names_in : {E : Type 0} → (E → EntityId) → (E → Bool) → GuidPrefix → ℕ → ℕ → List E → List Name
names_in entity_of reliable_of prefix peer number [] = []
names_in entity_of reliable_of prefix peer number (e ∷ es) =
    record {
      end = record { peer = peer; number = number };
      guid = record { prefix = prefix; entity = entity_of e };
      reliable = reliable_of e;
    } ∷ names_in entity_of reliable_of prefix peer (number + 1) es

-- the names of all writers of these peers, the first of which has this number
abbrev pub writer_names : ℕ → List PeerConfig → List Name
writer_names peer [] = []
writer_names peer (p ∷ ps) =
    names_in (λ (w : WriterConfig). w.entity) (λ w. true) p.prefix peer 1 p.writers ++ writer_names (peer + 1) ps

-- the names of all their readers
abbrev pub reader_names : ℕ → List PeerConfig → List Name
reader_names peer [] = []
reader_names peer (p ∷ ps) =
    names_in (λ (r : ReaderConfig). r.entity) is_reliable_reader p.prefix peer 1 p.readers ++ reader_names (peer + 1) ps

-- what a reader's QoS says of the matched writers of the topic
abbrev pub writer_qos : ℕ → List PeerConfig → List MatchedWriter
writer_qos topic ps = of_matched_writers
    (λ i p n w. record {
      guid = record { prefix = p.prefix; entity = w.entity };
      strength = w.strength;
      lease = w.lease;
    }) topic 1 ps

-- a reader's policies, as its configuration has them, with its matched writers among these peers
abbrev pub reader_qos : List PeerConfig → ReaderConfig → ReaderQos
reader_qos peers r = record {
  ownership = r.ownership;
  reliability = r.reliability;
  history = r.history;
  max_samples = limit_of r.max_samples;
  max_instances = limit_of r.max_instances;
  max_arrivals = r.max_arrivals;
  writers = writer_qos r.topic peers;
}

-- a writer that has done nothing, with its matched readers among these peers, the first of which has this number: each
-- has acknowledged nothing
abbrev pub writer_from : ℕ → List PeerConfig → WriterConfig → Writer
writer_from first peers w =
    record {
      policy = w.history;
      max_samples = limit_of w.max_samples;
      lease = w.lease;
      strength = carried w.ownership w.strength;
      autodispose = w.autodispose;
      max_value = w.max_value;
      known = topic_readers w.topic first peers;
      written = [];
      matched = matched_readers w.topic first peers;
      readers = reliable_readers w.topic first peers;
      matches = opened_with (matched_readers w.topic first peers);
    }

-- a reader at which nothing has happened, likewise
abbrev pub reader_from : ℕ → List PeerConfig → ReaderConfig → Reader
reader_from first peers r = record {
  qos = reader_qos peers r;
  happened = [];
  seen = nothing_seen;
  matches = opened_with (map (λ (p : WriterProxy). p.writer) (matched_writers r.topic first peers));
}

-- the part of a peer to which nothing has happened, likewise: at moment 0, with nothing watched and no listener. It
-- knows the names of these peers' ends.
abbrev pub part_from : ℕ → List PeerConfig → PeerConfig → Part
part_from first peers p = record {
  rtps = record {
    writers = map (writer_from first peers) p.writers;
    readers = map (λ (r : ReaderConfig). matched_writers r.topic first peers) p.readers;
    names = record { writers = writer_names first peers; readers = reader_names first peers };
  };
  dds = record {
    moment = 0;
    readers = map (reader_from first peers) p.readers;
    watch = nothing_watched (length p.writers) (length p.readers);
    listeners = nobody (length p.writers) (length p.readers);
  };
}

-- a writer of the opening, by its configuration
abbrev pub opening_writer : List PeerConfig → WriterConfig → Writer
opening_writer peers = writer_from 1 peers

-- a reader of the opening
abbrev pub opening_reader : List PeerConfig → ReaderConfig → Reader
opening_reader peers = reader_from 1 peers

-- the part of a peer of the opening
abbrev pub opening_part : List PeerConfig → PeerConfig → Part
opening_part peers = part_from 1 peers

-- the machine at its opening
abbrev pub opening : Config → Machine
opening config = record { parts = map (opening_part config.peers) config.peers }

-- the part of a peer that comes later, with this number: its writers and readers are matched with its own alone
abbrev pub coming_part : ℕ → PeerConfig → Part
coming_part number p = part_from number (p ∷ []) p

-- the machine, to which a peer comes: it has the next number
abbrev pub machine_with_peer : Machine → PeerConfig → Machine
machine_with_peer m p = record { parts = m.parts ++ coming_part (length m.parts + 1) p ∷ [] }
