-- Reading a DATA from left to right: what the code does, on lists. Nothing here has to be believed, since
-- `read_message` says what it reads by `Data`.
--
-- RTPS 2.5, 9.4.5 (Data), 9.6 (strength, key hash and status info).
use Rattle.std.specs.Prelude.{ℕ, ◌-◌, Bool, true, false, List, Option, Some, None, nat_lt, if◌then◌else◌, unwrap_or}
use Rattle.std.specs.Option.{option_map}
use Rattle.std.specs.Int.{w16}
use Rattle.dds_base.specs.declared.endianness.Endianness.{Endianness}
use Rattle.dds_base.specs.declared.guid.EntityId.{EntityId}
use Rattle.dds_base.specs.declared.key.Key.{Key}
use Rattle.dds_base.specs.Fields.{number_at, octets_at, ◌>>=◌}
use Rattle.dds_base.specs.FieldPairs.{both}
use Rattle.dds_base.specs.DatumAt.{datum_at, key_form_at}
use Rattle.rtps_wire.specs.declared.data.ChangeBody.{ChangeBody}
use Rattle.rtps_wire.specs.declared.data.ChangeBody.TheVariants.{Write, Dispose, Unregister, DisposeUnregister}
use Rattle.rtps_wire.specs.declared.data.Data.{Data}
use Rattle.rtps_wire.specs.declared.parameters.Parameters.{Parameters}
use Rattle.rtps_wire.specs.Fields.{has_flag, order_of}
use Rattle.rtps_wire.specs.FieldAt.{entity_id_at, sn_at}
use Rattle.rtps_wire.specs.ParametersAt.{parameters_at}
use Rattle.rtps_wire.specs.Names.{flag_data, flag_inline_qos, flag_key, flag_non_standard, least_octets_to_inline_qos, status_disposed, status_unregistered}

-- octetsToInlineQos, readerId, writerId, writerSN, and what follows
unfoldable pub data_head_at : Endianness → List ℕ → Option (ℕ × EntityId × EntityId × ℕ × List ℕ)
data_head_at order body = do
  x ← both (both (both (number_at order w16) (number_at order w16)) (both entity_id_at entity_id_at)) (sn_at order) body
  Some (x.0.0.0.1, x.0.0.1.0, x.0.0.1.1, x.0.1, x.1)

-- the key, by the flags D and K
unfoldable pub shown_key_at : Bool → Bool → Option Key → List ℕ → Option Key
shown_key_at true true hash payload = None
shown_key_at true false hash payload = option_map (λ d. d.key) (datum_at payload)
shown_key_at false true hash payload = key_form_at payload
shown_key_at false false hash payload = hash

-- what the status says of the key, where it says anything
unfoldable pub ended_at : Bool → Bool → Key → ChangeBody
ended_at true true k = DisposeUnregister k
ended_at true false k = Dispose k
ended_at false unregistered k = Unregister k

-- what is said, by disposed, unregistered, D and K
unfoldable pub body_by : Bool → Bool → Bool → Bool → Option Key → List ℕ → Option ChangeBody
body_by false false true false hash payload = option_map Write (datum_at payload)
body_by false false true true hash payload = None
body_by false false false key hash payload = None
body_by true unregistered datum key hash payload =
    option_map (ended_at true unregistered) (shown_key_at datum key hash payload)
body_by false true datum key hash payload = option_map (ended_at false true) (shown_key_at datum key hash payload)

-- the same, by the flags and the parameters
unfoldable pub body_at : ℕ → Parameters → List ℕ → Option ChangeBody
body_at flags found payload =
    body_by (has_flag (unwrap_or found.status 0) status_disposed)
    (has_flag (unwrap_or found.status 0) status_unregistered)
    (has_flag flags flag_data) (has_flag flags flag_key) found.key_hash payload

-- the parameters, where flag Q is set, and the payload
unfoldable pub inline_at : ℕ → List ℕ → Option (Parameters × List ℕ)
inline_at flags bytes = if has_flag flags flag_inline_qos then parameters_at (order_of flags) bytes
    else Some (record { key_hash = None; status = None; strength = None }, bytes)

-- the DATA that a body is, by the flags: none where flag N is set, or the body is no DATA
unfoldable pub data_at : ℕ → List ℕ → Option Data
data_at flags body = if has_flag flags flag_non_standard then None else (do
  x ← data_head_at (order_of flags) body
  s ← (if nat_lt x.0 least_octets_to_inline_qos then None else octets_at (x.0 - least_octets_to_inline_qos) x.4)
  p ← inline_at flags s.1
  b ← body_at flags p.0 p.1
  if nat_lt x.3 1 then None else Some (record {
    reader_id = x.1;
    writer_id = x.2;
    writer_sn = x.3;
    content = record { body = b; strength = p.0.strength };
  }))
