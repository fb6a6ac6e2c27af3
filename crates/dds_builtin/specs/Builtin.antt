-- The network of two peers by which two participants tell each other their endpoints (RTPS 2.5, 8.5.4: SEDP; 8.4.13: participant
-- messages; 9.3.1: entity ids; 9.3.2: BuiltinEndpointSet_t).
use Rattle.std.specs.Prelude.{ℕ, ◌+◌, ◌/◌, ◌%◌, ◌==◌, Bool, true, List, [], ◌∷◌, ◌++◌, map, filter, pos, negsuc, None, if◌then◌else◌}
use Rattle.std.specs.Ordering.{is_lt, nat_cmp}
use Rattle.std.specs.Cmp.Lexicographic.{slice_cmp}
use Rattle.dds_base.specs.declared.config.Config.{Config}
use Rattle.dds_base.specs.declared.config.PeerConfig.{PeerConfig}
use Rattle.dds_base.specs.declared.config.ReaderConfig.{ReaderConfig}
use Rattle.dds_base.specs.declared.config.WriterConfig.{WriterConfig}
use Rattle.dds_base.specs.declared.guid.GuidPrefix.{GuidPrefix}
use Rattle.dds_base.specs.declared.qos.HistoryQos.TheVariants.{KeepLast}
use Rattle.dds_base.specs.declared.qos.OwnershipQos.TheVariants.{Shared}
use Rattle.dds_base.specs.declared.qos.ReliabilityQos.TheVariants.{Reliable}
use Rattle.dds_base.specs.Bounds.{usual_arrivals}
use Rattle.rtps_adapter.specs.declared.kinds.KeyRule.TheVariants.{ParameterList}
use Rattle.rtps_adapter.specs.declared.kinds.Kind.TheVariants.{Opaque}
use Rattle.rtps_adapter.specs.declared.kinds.WriterKind.{WriterKind}
use Rattle.rtps_announcements.specs.declared.participant.Participant.{Participant}
use Rattle.dds_builtin.specs.declared.builtin.Topic.{Topic}
use Rattle.dds_builtin.specs.declared.builtin.Topic.TheVariants.{Publications, Subscriptions, Messages}

-- the builtin topics
abbrev pub builtin_topics : List Topic
builtin_topics = Publications ∷ Subscriptions ∷ Messages ∷ []

-- the key of the entity ids of its writer and its reader
abbrev pub key_of_topic : Topic → List ℕ
key_of_topic Publications = 0 ∷ 0 ∷ 3 ∷ []
key_of_topic Subscriptions = 0 ∷ 0 ∷ 4 ∷ []
key_of_topic Messages = 0 ∷ 2 ∷ 0 ∷ []

-- It is two topics of the network, one for each way: so nobody's reader is matched with a writer of its own participant.
abbrev pub number_of_topic : Topic → ℕ
number_of_topic Publications = 0
number_of_topic Subscriptions = 2
number_of_topic Messages = 4

-- the bits of its writer and of its reader in a BuiltinEndpointSet_t
abbrev pub writer_bit : Topic → ℕ
writer_bit Publications = 0x004
writer_bit Subscriptions = 0x010
writer_bit Messages = 0x400

abbrev pub reader_bit : Topic → ℕ
reader_bit Publications = 0x008
reader_bit Subscriptions = 0x020
reader_bit Messages = 0x800

-- the set has this bit
abbrev pub has_bit : ℕ → ℕ → Bool
has_bit set bit = set / bit % 2 == 1

-- its writer keeps the last announcement of each endpoint, of at most 4,096 octets
abbrev pub builtin_writer : ℕ → Topic → WriterConfig
builtin_writer way topic = record {
  entity = record { 0 = key_of_topic topic ++ 2 ∷ [] };
  topic = number_of_topic topic + way;
  ownership = Shared;
  reliability = Reliable;
  history = KeepLast 1;
  max_samples = negsuc 0;
  strength = pos 0;
  lease = None;
  autodispose = true;
  max_value = 4096;
}

-- its reader keeps the last announcement of each of 128 endpoints
abbrev pub builtin_reader : ℕ → Topic → ReaderConfig
builtin_reader way topic = record {
  entity = record { 0 = key_of_topic topic ++ 7 ∷ [] };
  topic = number_of_topic topic + way;
  ownership = Shared;
  reliability = Reliable;
  history = KeepLast 1;
  max_samples = negsuc 0;
  max_instances = pos 128;
  max_arrivals = usual_arrivals;
  lease = None;
  max_value = 4096;
}

-- a participant with these builtin endpoints, which writes one way and reads the other
abbrev pub builtin_peer : GuidPrefix → ℕ → ℕ → ℕ → PeerConfig
builtin_peer prefix set writes reads = record {
  prefix = prefix;
  writers = map (builtin_writer writes) (filter (λ t. has_bit set (writer_bit t)) builtin_topics);
  readers = map (builtin_reader reads) (filter (λ t. has_bit set (reader_bit t)) builtin_topics);
}

-- the smaller prefix
abbrev pub is_before : GuidPrefix → GuidPrefix → Bool
is_before a b = is_lt (slice_cmp nat_cmp a.0 b.0)

-- a participant that has all of them
abbrev pub all_endpoints : ℕ
all_endpoints = 0xc3c

-- The two peers: the smaller prefix first, so that both participants have one configuration.
abbrev pub network_of : GuidPrefix → Participant → Config
network_of own far = record {
  peers = if is_before own far.prefix
      then builtin_peer own all_endpoints 0 1 ∷ builtin_peer far.prefix far.builtin_endpoints 1 0 ∷ []
      else builtin_peer far.prefix far.builtin_endpoints 0 1 ∷ builtin_peer own all_endpoints 1 0 ∷ [];
}

-- which of them we are
abbrev pub number_of : GuidPrefix → Participant → ℕ
number_of own far = if is_before own far.prefix then 1 else 2

-- what a participant's builtin writers of publications and subscriptions carry: lists of parameters
abbrev pub list_of : GuidPrefix → Topic → WriterKind
list_of prefix topic = record {
  writer = record { prefix = prefix; entity = record { 0 = key_of_topic topic ++ 2 ∷ [] } };
  kind = Opaque ParameterList;
  max_value = 4096;
}

abbrev pub lists_of : GuidPrefix → List WriterKind
lists_of prefix = list_of prefix Publications ∷ list_of prefix Subscriptions ∷ []
