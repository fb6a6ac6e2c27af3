-- What a configuration in arrays means, and what is held once a peer was opened.
--
-- DDS 1.4, 2.2.3 (supported QoS); that a configuration comes in arrays is this project's own.
use Rattle.std.specs.Prelude.{◌≡◌, ◌⊎◌, ℕ, ◌+◌, ◌==◌, List, [], ◌∷◌, length, map, Bool, true, false, ◌||◌, not, nat_eq, Option, Some, None, if◌then◌else◌}
use Rattle.std.specs.List.{filter, list_any}
use Rattle.dds_base.specs.Bounds.{usual_arrivals, usual_value}
use Rattle.dds_base.specs.Number.{is_number}
use Rattle.dds_base.specs.Refusal.{Refuses}
use Rattle.dds_base.specs.declared.code.Code.{Code}
use Rattle.dds_base.specs.declared.code.Code.TheVariants.{BadParameter, Memory}
use Rattle.dds_base.specs.declared.config.Config.{Config}
use Rattle.dds_base.specs.declared.config.PeerConfig.{PeerConfig}
use Rattle.dds_base.specs.declared.config.ReaderConfig.{ReaderConfig}
use Rattle.dds_base.specs.declared.config.WriterConfig.{WriterConfig}
use Rattle.dds_base.specs.declared.qos.HistoryQos.{HistoryQos}
use Rattle.dds_base.specs.declared.qos.HistoryQos.TheVariants.{KeepAll, KeepLast}
use Rattle.dds_base.specs.declared.qos.OwnershipQos.{OwnershipQos}
use Rattle.dds_base.specs.declared.qos.OwnershipQos.TheVariants.{Exclusive, Shared}
use Rattle.dds_base.specs.declared.qos.ReliabilityQos.{ReliabilityQos}
use Rattle.dds_base.specs.declared.qos.ReliabilityQos.TheVariants.{BestEffort, Reliable}
use Rattle.dds_core.specs.Listening.{StandsFor, no_listeners}
use Rattle.dds_core.specs.Opening.{core_refusal, opening_peer}
use Rattle.dds_core.specs.Ruling.{IsSound}
use Rattle.dds_machine.specs.declared.reply.Reply.TheVariants.{Done}
use Rattle.dds_protocol.specs.declared.event.Output.{Output}
use Rattle.dds_protocol.specs.Roster.{roster_of}
use Rattle.dds_c.specs.Answering.{refusing_number}
use Rattle.dds_c.specs.Meaning.{recorder_notices, recorder_capacity, recorder_becomes}
use Rattle.dds_c.specs.declared.config.FlatPeer.{FlatPeer}
use Rattle.dds_c.specs.declared.config.FlatReader.{FlatReader}
use Rattle.dds_c.specs.declared.config.FlatWriter.{FlatWriter}
use Rattle.dds_c.specs.declared.session.Session.{Session}

-- whether all is kept, or the last ones of each instance
abbrev pub history_of : Bool → ℕ → HistoryQos
history_of true depth = KeepLast depth
history_of false depth = KeepAll

-- whether there is a lease
abbrev pub lease_of : Bool → ℕ → Option ℕ
lease_of true lease = Some lease
lease_of false lease = None

-- how many changes a reader takes in its life
abbrev pub max_arrivals_of : Bool → ℕ → ℕ
max_arrivals_of true max_arrivals = max_arrivals
max_arrivals_of false max_arrivals = usual_arrivals

-- how many octets a value has at most: as many as usual where it says 0
abbrev pub max_value_of : ℕ → ℕ
max_value_of most = if most == 0 then usual_value else most

-- whether one writer alone may change an instance
abbrev pub ownership_of : Bool → OwnershipQos
ownership_of true = Exclusive
ownership_of false = Shared

-- whether a writer keeps what its readers miss, and a reader asks for it, or neither does
abbrev pub reliability_of : Bool → ReliabilityQos
reliability_of true = BestEffort
reliability_of false = Reliable

-- a writer, as peers know it
abbrev pub writer_of : FlatWriter → WriterConfig
writer_of w = record {
  entity = record { 0 = w.entity };
  topic = w.topic;
  ownership = ownership_of w.is_exclusive;
  reliability = reliability_of w.is_best_effort;
  history = history_of w.keeps_last w.depth;
  max_samples = w.max_samples;
  strength = w.strength;
  lease = lease_of w.has_lease w.lease;
  autodispose = w.autodispose;
  max_value = max_value_of w.max_value;
}

-- a reader, as peers know it
abbrev pub reader_of : FlatReader → ReaderConfig
reader_of r = record {
  entity = record { 0 = r.entity };
  topic = r.topic;
  ownership = ownership_of r.is_exclusive;
  reliability = reliability_of r.is_best_effort;
  history = history_of r.keeps_last r.depth;
  max_samples = r.max_samples;
  max_instances = r.max_instances;
  max_arrivals = max_arrivals_of r.has_max_arrivals r.max_arrivals;
  lease = lease_of r.has_lease r.lease;
  max_value = max_value_of r.max_value;
}

-- the writers of the peer of this number, in their order
abbrev pub writers_of : List FlatWriter → ℕ → List WriterConfig
writers_of writers number = map writer_of (filter (λ w. nat_eq w.peer number) writers)

-- its readers, likewise
abbrev pub readers_of : List FlatReader → ℕ → List ReaderConfig
readers_of readers number = map reader_of (filter (λ r. nat_eq r.peer number) readers)

-- the peer of this number
abbrev pub peer_of : List FlatWriter → List FlatReader → ℕ → FlatPeer → PeerConfig
peer_of writers readers number p = record {
  prefix = record { 0 = p.prefix };
  writers = writers_of writers number;
  readers = readers_of readers number;
}

-- the peers, whose numbers begin with this one
abbrev pub peers_of : List FlatWriter → List FlatReader → ℕ → List FlatPeer → List PeerConfig
peers_of writers readers number [] = []
peers_of writers readers number (p ∷ ps) = peer_of writers readers number p ∷ peers_of writers readers (number + 1) ps

-- the configuration of these peers, writers and readers
abbrev pub config_of : List FlatPeer → List FlatWriter → List FlatReader → Config
config_of peers writers readers = record { peers = peers_of writers readers 1 peers }

-- a writer or a reader names a peer that there isn't
abbrev pub names_no_peer : ℕ → List FlatWriter → List FlatReader → Bool
names_no_peer count writers readers =
    list_any (λ w. not (is_number w.peer count)) writers || list_any (λ r. not (is_number r.peer count)) readers

-- why the peer of this number is not opened
abbrev pub open_refusal : List FlatPeer → List FlatWriter → List FlatReader → ℕ → Option Code
open_refusal peers writers readers number =
    if names_no_peer (length peers) writers readers then Some BadParameter
    else core_refusal (config_of peers writers readers).peers number

-- the last answer before anything happened
abbrev pub no_output : Output
no_output = record { reply = Done; packets = []; unsent = 0 }

-- The peer of this number of a configuration, at its opening: it stands for that, all that it knows was claimed, it has
-- neither filters nor listeners, and nothing happened yet.
pub record IsOpening (config : Config) (number : ℕ) (session : Session) : Type 0 where
  pub stands : StandsFor recorder_notices recorder_capacity recorder_becomes (no_listeners (opening_peer config number).part)
      session.core (roster_of config) (opening_peer config number)
  pub known : IsSound (roster_of config) (opening_peer config number)
  pub filters : session.core.filtered.filters ≡ []
  pub taken : core_refusal config.peers number ≡ None
  pub last : session.last ≡ no_output
  pub told : session.told ≡ None

-- the same of some configuration
pub record IsSomeOpening (number : ℕ) (session : Session) : Type 0 where
  pub config : Config
  pub opening : IsOpening config number session

-- the number of the code of a refusal: of its first cause, or for want of memory
pub record RefusesBy (cause : Option Code) (number : ℕ) : Type 0 where
  pub code : Code
  pub refuses : Refuses cause code ⊎ (code ≡ Memory)
  pub numbered : number ≡ refusing_number code

-- The number of the code of a text's refusal: the text is none of a configuration, or the peer of this number of some
-- configuration is refused by its first cause, or there is no memory.
abbrev pub RefusesText : ℕ → ℕ → Type 0
RefusesText peer number =
    RefusesBy (Some BadParameter) number ⊎ ((config : Config) × RefusesBy (core_refusal config.peers peer) number)
