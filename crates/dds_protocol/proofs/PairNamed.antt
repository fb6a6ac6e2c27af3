-- A pair by the names that the roster has.
use Rattle.std.specs.Prelude.{◌≡◌}
use Rattle.dds_base.specs.declared.endpoint.Endpoint.{Endpoint}
use Rattle.dds_protocol.specs.DueMessages.{writer_entity}
use Rattle.dds_protocol.specs.Repair.{IsPair}
use Rattle.dds_protocol.specs.Roster.{Roster}

-- the two are a pair, by these entity ids
pub record PairOf (roster : Roster) (writer reader : Endpoint) : Type 0 where
  pub pair : IsPair roster writer reader
  pub writer_is : pair.writer_entity ≡ writer_entity roster writer.peer writer.number
