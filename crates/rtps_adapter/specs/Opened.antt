-- A DATA up to its payload (RTPS 2.5, 9.4.5: Data; 9.4.2: ParameterList).
--
-- 0...............8...............16..............24.............31
-- |          extraFlags           |       octetsToInlineQos       |
-- |     as many octets: readerId, writerId, writerSN, others ...  |
-- |         parameters up to the sentinel, with flag Q            |
-- |                        the payload ...                        |
use Rattle.std.specs.Prelude.{ℕ, zero, suc, ◌==◌, List, Option, None, Some, nat_lt, if◌then◌else◌}
use Rattle.std.specs.Int.{w16}
use Rattle.dds_base.specs.declared.endianness.Endianness.{Endianness}
use Rattle.dds_base.specs.declared.guid.EntityId.{EntityId}
use Rattle.dds_base.specs.Fields.{number_at, octets_at, ◌>>=◌}
use Rattle.rtps_wire.specs.Fields.{has_flag, order_of}
use Rattle.rtps_wire.specs.FieldAt.{entity_id_at}
use Rattle.rtps_wire.specs.ParametersAt.{parameter_at}
use Rattle.rtps_wire.specs.Names.{flag_inline_qos, flag_non_standard, least_octets_to_inline_qos, pid_sentinel}
use Rattle.std.specs.Prelude.{length}

-- what follows the sentinel, where it is among the first parameters, as many as the number says
unfoldable pub after_first : ℕ → Endianness → List ℕ → Option (List ℕ)
after_first zero order bytes = None
after_first (suc count) order bytes = do
  p ← parameter_at order bytes
  if p.0 == pid_sentinel then Some p.2 else after_first count order p.2

-- what follows the parameters, and their sentinel
unfoldable pub after_parameters : Endianness → List ℕ → Option (List ℕ)
after_parameters order bytes = after_first (suc (length bytes)) order bytes

-- where flag Q is set, what follows the parameters
unfoldable pub after_inline : ℕ → List ℕ → Option (List ℕ)
after_inline flags bytes =
    if has_flag flags flag_inline_qos then after_parameters (order_of flags) bytes else Some bytes

-- the writer that a DATA names, and its payload; none where it is cut, has no sentinel, or its flag N is set
unfoldable pub payload_at : ℕ → List ℕ → Option (EntityId × List ℕ)
payload_at flags body = if has_flag flags flag_non_standard then None else (do
  extra ← number_at (order_of flags) w16 body
  way ← number_at (order_of flags) w16 extra.1
  reader ← entity_id_at way.1
  writer ← entity_id_at reader.1
  head ← (if nat_lt way.0 least_octets_to_inline_qos then None else octets_at way.0 way.1)
  payload ← after_inline flags head.1
  Some (writer.0, payload))
