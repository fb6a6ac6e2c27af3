-- The messages of SPDP that are sent (RTPS 2.5, 8.5.3; 9.4.4: the header; 9.4.5: Data, InfoDestination; 9.6: key hash, status
-- info).
use Rattle.std.specs.Prelude.{ℕ, ◌+◌, List, [], ◌∷◌, ◌++◌, length, Option, Some, None}
use Rattle.dds_base.specs.declared.endianness.Endianness.TheVariants.{Little}
use Rattle.dds_base.specs.declared.guid.EntityId.{EntityId}
use Rattle.dds_base.specs.declared.guid.GuidPrefix.{GuidPrefix}
use Rattle.rtps_wire.specs.Data.{data_head}
use Rattle.rtps_wire.specs.Frames.{frame_text}
use Rattle.rtps_wire.specs.Messages.{header_text}
use Rattle.rtps_wire.specs.Names.{extra_flags, flag_data, flag_endianness, flag_inline_qos, flag_key, id_data, id_info_dst, least_octets_to_inline_qos, minor_version, pid_key_hash, pid_sentinel, pid_status_info, vendor_unknown}
use Rattle.rtps_wire.specs.Parameters.{parameter_text}
use Rattle.rtps_announcements.specs.Values.{guid_text, participant_guid}
use Rattle.rtps_announcements.specs.WrittenParticipants.{text_of_guid}
use Rattle.rtps_discovery.specs.Spdp.{spdp_writer}

-- whom a message is for: everybody, or one participant
abbrev pub destination_text : Option GuidPrefix → List ℕ
destination_text None = []
destination_text (Some prefix) = frame_text id_info_dst flag_endianness 12 prefix.0

-- ENTITYID_UNKNOWN: no reader in particular
abbrev pub everyone : EntityId
everyone = record { 0 = 0 ∷ 0 ∷ 0 ∷ 0 ∷ [] }

-- a DATA of the SPDP writer
abbrev pub data_body : EntityId → ℕ → List ℕ → List ℕ
data_body reader sn content = data_head Little extra_flags least_octets_to_inline_qos reader spdp_writer sn ++ content

abbrev pub data_text : ℕ → EntityId → ℕ → List ℕ → List ℕ
data_text flags reader sn content =
    frame_text id_data flags (length (data_body reader sn content)) (data_body reader sn content)

-- a message with these submessages
abbrev pub message_to : GuidPrefix → Option GuidPrefix → List ℕ → List ℕ
message_to own to submessages = header_text minor_version vendor_unknown own ++ destination_text to ++ submessages

-- the announcement of a participant to a reader, by the payload that says what it is
abbrev pub announcement_data : EntityId → List ℕ → List ℕ
announcement_data reader payload = data_text (flag_endianness + flag_data) reader 1 payload

-- what a participant says as it leaves: it disposes of itself, and unregisters
abbrev pub farewell_content : GuidPrefix → List ℕ
farewell_content own =
    parameter_text Little (record { id = pid_key_hash; value = guid_text (participant_guid own) })
    ++ parameter_text Little (record { id = pid_status_info; value = 0 ∷ 0 ∷ 0 ∷ 3 ∷ [] })
    ++ parameter_text Little (record { id = pid_sentinel; value = [] })
    ++ text_of_guid (participant_guid own)

abbrev pub farewell_data : GuidPrefix → List ℕ
farewell_data own = data_text (flag_endianness + flag_inline_qos + flag_key) everyone 2 (farewell_content own)
