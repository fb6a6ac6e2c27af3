-- Payloads of any type, and the datum and the key form that stand for them (RTPS 2.5, clause 10: SerializedPayload;
-- XTypes 1.3, 7.6.3.1.2: how many octets of padding end a payload).
--
-- 0...............8...............16..............24.............31
-- |   representation identifier   |         options           | n |
-- |               the value ..., and n octets of padding          |
use Rattle.std.specs.Prelude.{ℕ, ◌+◌, ◌-◌, ◌%◌, ◌==◌, Bool, true, false, List, [], ◌∷◌, ◌++◌, length, take, nat_lt, Option, None, Some, if◌then◌else◌}
use Rattle.dds_base.specs.declared.datum.Datum.{Datum}
use Rattle.dds_base.specs.declared.key.Key.{Key}
use Rattle.dds_base.specs.Fields.{◌>>=◌}
use Rattle.dds_base.specs.DatumAt.{datum_at, key_form_at}
use Rattle.dds_base.specs.DatumText.{spelling_of_datum, spelling_of_key}
use Rattle.dds_base.specs.Happening.{same_key}
use Rattle.dds_base.specs.declared.endianness.Endianness.TheVariants.{Little}
use Rattle.rtps_wire.specs.Data.{sentinel_text}
use Rattle.rtps_wire.specs.Parameters.{parameter_text}
use Rattle.rtps_wire.specs.Submessages.{padding}
use Rattle.rtps_announcements.specs.Names.{pid_endpoint_guid}
use Rattle.rtps_adapter.specs.declared.kinds.KeyRule.{KeyRule}
use Rattle.rtps_adapter.specs.declared.kinds.KeyRule.TheVariants.{Keyless, Fields, ParameterList}
use Rattle.rtps_adapter.specs.Kinds.{no_key}
use Rattle.rtps_adapter.specs.Keys.{key_alone, key_by, own_octets, representation_of}

-- The value of a payload: representation, options and body, without the octets of padding that the low two bits of
-- the options count, and with these bits clear. None where there are fewer octets than that.
unfoldable pub value_at : List ℕ → Option (List ℕ)
value_at (a ∷ b ∷ c ∷ d ∷ body) =
    if nat_lt (length body) (d % 4) then None
    else Some (a ∷ b ∷ c ∷ (d - d % 4) ∷ take (length body - d % 4) body)
value_at _ = None

-- The payload of a value: zeros up to a multiple of 4, which the options count. None where it is no value: where the
-- options count some already, or there are fewer than four octets.
unfoldable pub payload_of : List ℕ → Option (List ℕ)
payload_of (a ∷ b ∷ c ∷ d ∷ body) =
    if d % 4 == 0 then Some (a ∷ b ∷ c ∷ (d + length (padding (length body))) ∷ (body ++ padding (length body)))
    else None
payload_of _ = None

-- the list of parameters that names a key alone, as an endpoint's GUID
abbrev pub list_of_key : Key → List ℕ
list_of_key k = 0 ∷ 3 ∷ 0 ∷ 0 ∷ (parameter_text Little (record { id = pid_endpoint_guid; value = k.0 }) ++ sentinel_text)

-- the payload that says a key alone, by the rule: of a type without a key it has nothing after the options, of one with
-- key fields these, big-endian, and of a list of parameters the one that names it
unfoldable pub key_payload_of : KeyRule → Key → Option (List ℕ)
key_payload_of Keyless k = if same_key k no_key then Some (0 ∷ 1 ∷ 0 ∷ 0 ∷ []) else None
key_payload_of (Fields encoding fields) k = do
  octets ← own_octets encoding fields.now k
  payload_of (0 ∷ representation_of encoding ∷ 0 ∷ 0 ∷ octets)
key_payload_of ParameterList k = Some (list_of_key k)

-- what a payload of another type turns into: the datum of its key and value, or where it says a key alone, the key form
unfoldable pub inward_payload : KeyRule → Bool → List ℕ → Option (List ℕ)
inward_payload rule false payload = do
  value ← value_at payload
  key ← key_by rule value
  Some (spelling_of_datum (record { key = key; value = value }))
inward_payload rule true payload = do
  value ← value_at payload
  key ← key_alone rule value
  Some (spelling_of_key key)

-- the key that was found is this one
abbrev pub is_found : Option Key → Key → Bool
is_found None k = false
is_found (Some own) k = same_key k own

-- the datum has the key of its value
abbrev pub has_own_key : KeyRule → Datum → Bool
has_own_key rule d = is_found (key_by rule d.value) d.key

-- what a datum or a key form turns into: its value as a payload, where that has this key, or the payload of the key
unfoldable pub outward_payload : KeyRule → Bool → List ℕ → Option (List ℕ)
outward_payload rule false payload = do
  d ← datum_at payload
  if has_own_key rule d then payload_of d.value else None
outward_payload rule true payload = do
  k ← key_form_at payload
  key_payload_of rule k
