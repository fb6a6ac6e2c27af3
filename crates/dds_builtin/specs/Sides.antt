-- What a datagram of a participant is to our peer, and what a packet of our peer is on the network (RTPS 2.5, 8.5.4: SEDP).
use Rattle.std.specs.Prelude.{ℕ, ◌<◌, List, length}
use Rattle.dds_base.specs.declared.guid.GuidPrefix.{GuidPrefix}
use Rattle.rtps_wire.specs.Names.{max_message}
use Rattle.rtps_adapter.specs.declared.direction.Direction.TheVariants.{Outward}
use Rattle.rtps_adapter.specs.declared.direction.Way.TheVariants.{Filling}
use Rattle.rtps_adapter.specs.Adapting.{Adapts, Makes}
use Rattle.dds_builtin.specs.Builtin.{lists_of}
use Rattle.dds_builtin.specs.Kinds.{WithKinds}

-- A packet of ours on the network: a list stands in place of a datum, and the entities of a user are builtin ones.
pub record TurnsOut (own : GuidPrefix) (bytes out : List ℕ) : Type 0 where
  pub between : List ℕ
  pub adapts : Adapts Outward (lists_of own) bytes between
  pub kinds : WithKinds between out

-- A datagram of a participant to our peer: builtin entities are those of a user, a list stands in a datum, and a number whose list
-- could not be read in a GAP.
pub record TurnsIn (far : GuidPrefix) (bytes out : List ℕ) : Type 0 where
  pub between : List ℕ
  pub kinds : WithKinds bytes between
  pub adapts : Makes Filling (lists_of far) between out

-- That is longer than a datagram may be.
pub record IsTooLongIn (far : GuidPrefix) (bytes : List ℕ) : Type 0 where
  pub out : List ℕ
  pub turns : TurnsIn far bytes out
  pub long : max_message < length out

-- the same of a packet of ours: what it is, but for the kinds of its entities
pub record IsTooLongOut (own : GuidPrefix) (bytes : List ℕ) : Type 0 where
  pub between : List ℕ
  pub adapts : Adapts Outward (lists_of own) bytes between
  pub long : max_message < length between
