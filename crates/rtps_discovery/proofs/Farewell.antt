-- A farewell is short.
use Rattle.std.proofs.Common.{◌≡◌, ◌≤◌, ◌+◌, ℕ, List, [], ◌∷◌, ◌++◌, length, arith}
use Rattle.std.specs.List.{flat_map}
use Rattle.std.proofs.lemmas.List.{length-append}
use Rattle.dds_base.specs.declared.endianness.Endianness.TheVariants.{Little}
use Rattle.dds_base.specs.declared.guid.GuidPrefix.{GuidPrefix}
use Rattle.rtps_wire.specs.Parameters.{parameter_text}
use Rattle.rtps_announcements.specs.Values.{guid_text, participant_guid}
use Rattle.rtps_announcements.specs.Written.{row_text}
use Rattle.rtps_announcements.specs.WrittenParticipants.{pid_of_guid, text_of_guid}
use Rattle.rtps_discovery.specs.Packets.{farewell_content}

guid_long : (own : GuidPrefix) → length own.0 ≡ 12 → length (guid_text (participant_guid own)) ≡ 16
guid_long own len = omega (arith, len, length-append own.0 (0 ∷ 0 ∷ 1 ∷ 193 ∷ []))

parameter_long : (id : ℕ) (value : List ℕ) → length (parameter_text Little (record { id = id; value = value })) ≡ 4 + length value
parameter_long id value = omega arith

row_long : (id : ℕ) (value : List ℕ) → length (flat_map row_text ((id, value ∷ []) ∷ [])) ≡ 4 + length value
unfolding row_text
row_long id value =
    let one = parameter_text Little (record { id = id; value = value }) in
    omega (arith, parameter_long id value, length-append (one ++ []) [], length-append one [])

payload_long : (own : GuidPrefix) → length own.0 ≡ 12 → length (text_of_guid (participant_guid own)) ≡ 28
payload_long own len =
    let guid = participant_guid own in
    let row = flat_map row_text ((pid_of_guid guid, guid_text guid ∷ []) ∷ []) in
    omega (
      arith,
      guid_long own len,
      row_long (pid_of_guid guid) (guid_text guid),
      length-append row (1 ∷ 0 ∷ 0 ∷ 0 ∷ []),
    )

pub farewell_short : (own : GuidPrefix) → length own.0 ≡ 12 → length (farewell_content own) ≤ 65000
farewell_short own len =
    let guid = guid_text (participant_guid own) in
    let hash = parameter_text Little (record { id = 112; value = guid }) in
    let status = parameter_text Little (record { id = 113; value = 0 ∷ 0 ∷ 0 ∷ 3 ∷ [] }) in
    let end = parameter_text Little (record { id = 1; value = [] }) in
    let payload = text_of_guid (participant_guid own) in
    omega (
      arith,
      guid_long own len,
      payload_long own len,
      parameter_long 112 guid,
      length-append hash status,
      length-append (hash ++ status) end,
      length-append ((hash ++ status) ++ end) payload,
      length-append hash (status ++ (end ++ payload)),
      length-append status (end ++ payload),
      length-append end payload,
    )
