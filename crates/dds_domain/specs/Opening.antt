-- Our endpoints, as discovery and as our peer has them (DDS 1.4, 2.2.2.2.1: DomainParticipant).
use Rattle.std.specs.Prelude.{ℕ, ◌-◌, ◌^◌, ◌++◌, ◌∷◌, min, List, [], length, Option, Some, None}
use Rattle.dds_base.specs.declared.config.Config.{Config}
use Rattle.dds_base.specs.declared.config.ReaderConfig.{ReaderConfig}
use Rattle.dds_base.specs.declared.config.WriterConfig.{WriterConfig}
use Rattle.dds_base.specs.declared.guid.Guid.{Guid}
use Rattle.dds_base.specs.declared.guid.GuidPrefix.{GuidPrefix}
use Rattle.rtps_announcements.specs.declared.qos.EndpointKind.{EndpointKind}
use Rattle.rtps_announcements.specs.declared.qos.EndpointKind.TheVariants.{Reader, Writer}
use Rattle.rtps_matching.specs.declared.end.End.{End}
use Rattle.dds_exchange.specs.declared.carried.Carried.{Carried}
use Rattle.dds_exchange.specs.declared.ends.OwnEnd.{OwnEnd}
use Rattle.dds_exchange.specs.Opening.{reader_of, writer_of}
use Rattle.dds_domain.specs.declared.opening.OurEnd.{OurEnd}

-- our writers and readers in the configuration of our peer, what more is known of them, all as they are announced, and what our
-- readers are called on the network
pub record State : Type 0 where
  pub writers : List WriterConfig
  pub readers : List ReaderConfig
  pub own_writers : List OwnEnd
  pub own_readers : List OwnEnd
  pub ends : List End
  pub names : List Guid

abbrev pub no_parts : State
no_parts = record { writers = []; readers = []; own_writers = []; own_readers = []; ends = []; names = [] }

-- each is of a topic of its own
abbrev pub next_topic : State → ℕ
next_topic p = min (length p.ends) (2 ^ 32 - 1)

abbrev pub with_writer : End → OwnEnd → State → State
with_writer end own p = record p {
  writers = p.writers ++ writer_of end (next_topic p) own.max_value ∷ [];
  own_writers = p.own_writers ++ own ∷ [];
}

abbrev pub with_reader : End → OwnEnd → State → State
with_reader end own p = record p {
  readers = p.readers ++ reader_of end (next_topic p) own.max_value ∷ [];
  own_readers = p.own_readers ++ own ∷ [];
  names = p.names ++ end.endpoint.guid ∷ [];
}

-- our peer has it
abbrev pub with_kind : EndpointKind → End → OwnEnd → State → State
with_kind Writer end own p = with_writer end own p
with_kind Reader end own p = with_reader end own p

abbrev pub sharing : End → Carried → ℕ → State → State
sharing end carried max_value p =
    with_kind end.kind end (record { entity = end.endpoint.guid.entity; carried = carried; max_value = max_value }) p

-- It has it where it is said what its topic carries.
abbrev pub sharing_any : End → Option Carried → ℕ → State → State
sharing_any end None max_value p = p
sharing_any end (Some carried) max_value p = sharing end carried max_value p

-- the one that is announced last
abbrev pub announcing : End → State → State
announcing end p = record p { ends = p.ends ++ end ∷ [] }

-- one more
abbrev pub with_end : State → OurEnd → State
with_end p e = announcing e.end (sharing_any e.end e.carried e.max_value p)

-- our peer is alone
abbrev pub config_of : GuidPrefix → List WriterConfig → List ReaderConfig → Config
config_of prefix writers readers = record { peers = record { prefix = prefix; writers = writers; readers = readers } ∷ [] }
