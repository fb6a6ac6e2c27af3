-- What our peer and we know (DDS 1.4, 2.2.2.2.1: DomainParticipant).
use Rattle.std.specs.Prelude.{List}
use Rattle.dds_base.specs.declared.guid.GuidPrefix.{GuidPrefix}
use Rattle.dds_network.specs.Networks.{Kept}
use Rattle.dds_exchange.specs.declared.ends.OwnEnd.{OwnEnd}
use Rattle.dds_exchange.specs.declared.naming.NamedEnd.{NamedEnd}
use Rattle.dds_exchange.specs.declared.told.Due.{Due}

-- what our GUIDs begin with, our peer, our writers and readers in the order of their numbers, endpoints of others that have names in
-- the order in which they got them, and what was told and is due in its order
pub record State : Type 0 where
  pub own : GuidPrefix
  pub core : Kept
  pub writers : List OwnEnd
  pub readers : List OwnEnd
  pub named : List NamedEnd
  pub due : List Due
