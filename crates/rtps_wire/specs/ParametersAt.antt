-- Reading parameters from left to right: what the code does, on lists. `read_message` says what it reads by
-- `Parameters`. All four are believed: `parameter_at` by `value_from` of rtps_announcements and `after_first` of
-- rtps_adapter; `parameters_at`, and by it the others, by `skip_parameters` and by `content_at` of rtps_discovery.
--
-- RTPS 2.5, 9.4.2 (ParameterList), 9.6 (strength, key hash and status info).
use Rattle.std.specs.Prelude.{ℕ, zero, suc, ◌%◌, ◌==◌, List, length, Option, Some, None, if◌then◌else◌, slice_index}
use Rattle.std.specs.Option.{option_or}
use Rattle.std.specs.Int.{w16}
use Rattle.dds_base.specs.declared.endianness.Endianness.{Endianness}
use Rattle.dds_base.specs.Fields.{number_at, octets_at, ◌>>=◌}
use Rattle.dds_base.specs.DatumAt.{key_at}
use Rattle.rtps_wire.specs.declared.parameters.Parameters.{Parameters}
use Rattle.rtps_wire.specs.FieldAt.{count_at}
use Rattle.rtps_wire.specs.Names.{len_aligned, len_key, len_ownership_strength, len_status_info, pid_key_hash, pid_ownership_strength, pid_sentinel, pid_status_info}

-- id, value, and what follows; the sentinel has no value
unfoldable pub parameter_at : Endianness → List ℕ → Option (ℕ × List ℕ × List ℕ)
parameter_at order bytes = do
  id ← number_at order w16 bytes
  len ← number_at order w16 id.1
  value ← octets_at (if id.0 == pid_sentinel then 0 else len.0) len.1
  Some (id.0, value.0, value.1)

-- what was found, with one more parameter
unfoldable pub noted_at : Endianness → Parameters → ℕ → List ℕ → Option Parameters
noted_at order found id value =
    if length value % len_aligned == 0 then
    (if id == pid_key_hash then
    (if length value == len_key then (do
      k ← key_at value
      Some (record {
        key_hash = option_or found.key_hash (Some k.0);
        status = found.status;
        strength = found.strength;
      })) else None)
    else
    (if id == pid_status_info then
    (if length value == len_status_info
    then Some (record {
      key_hash = found.key_hash;
      status = option_or found.status (Some (slice_index value 3));
      strength = found.strength;
    })
    else None)
    else
    (if id == pid_ownership_strength then
    (if length value == len_ownership_strength then (do
      z ← count_at order value
      Some (record {
        key_hash = found.key_hash;
        status = found.status;
        strength = option_or found.strength (Some z.0);
      })) else None)
    else Some found))) else None

-- the parameters up to the sentinel, where there are fewer than the first number of them
unfoldable pub parameters_from : ℕ → Endianness → Parameters → List ℕ → Option (Parameters × List ℕ)
parameters_from zero order found bytes = None
parameters_from (suc fuel) order found bytes = do
  p ← parameter_at order bytes
  if p.0 == pid_sentinel then Some (found, p.2) else (do
    more ← noted_at order found p.0 p.1
    parameters_from fuel order more p.2)

-- what the parameters up to the sentinel say
unfoldable pub parameters_at : Endianness → List ℕ → Option (Parameters × List ℕ)
parameters_at order bytes =
    parameters_from (suc (length bytes)) order (record { key_hash = None; status = None; strength = None }) bytes
