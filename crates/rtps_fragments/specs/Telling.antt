-- The message that is told of a payload that became whole: one DATA of its writer (RTPS 2.5, 8.3.4, 9.4.4 and 9.4.5).
use Rattle.std.specs.Prelude.{◌≡◌, ℕ, ◌+◌, List, [], ◌∷◌, ◌++◌, length, Option, Some, None}
use Rattle.std.specs.Option.{option_map}
use Rattle.dds_base.specs.declared.endianness.Endianness.TheVariants.{Little}
use Rattle.dds_base.specs.declared.guid.GuidPrefix.{GuidPrefix}
use Rattle.rtps_wire.specs.declared.submessage.Submessage.{Submessage}
use Rattle.rtps_wire.specs.declared.submessage.Submessage.TheVariants.{InfoDst, InfoTs}
use Rattle.rtps_wire.specs.Data.{data_head}
use Rattle.rtps_wire.specs.Fields.{order_of}
use Rattle.rtps_wire.specs.Frames.{frame_text}
use Rattle.rtps_wire.specs.InfoTs.{moment_text}
use Rattle.rtps_wire.specs.Messages.{header_text}
use Rattle.rtps_wire.specs.Names.{extra_flags, flag_endianness, flag_invalidate, id_data, id_info_dst, id_info_ts, least_octets_to_inline_qos, minor_version, vendor_unknown}
use Rattle.rtps_fragments.specs.declared.telling.InForce.{InForce}
use Rattle.rtps_fragments.specs.DataFrag.{Fragment}
use Rattle.rtps_fragments.specs.Keeping.{Kept, Heard}

-- what is in force at the beginning of a message: it is for every peer, and has no timestamp
abbrev pub at_first : GuidPrefix → InForce
at_first source = record {
  source = source;
  destination = record { 0 = 0 ∷ 0 ∷ 0 ∷ 0 ∷ 0 ∷ 0 ∷ 0 ∷ 0 ∷ 0 ∷ 0 ∷ 0 ∷ 0 ∷ [] };
  timestamp = None;
}

-- what is in force after a submessage
abbrev pub in_force_after : InForce → Submessage → InForce
in_force_after c (InfoDst prefix) = record { source = c.source; destination = prefix; timestamp = c.timestamp }
in_force_after c (InfoTs moment) = record { source = c.source; destination = c.destination; timestamp = moment }
in_force_after c s = c

-- an INFO_TS
abbrev pub info_ts_text : Option ℕ → List ℕ
info_ts_text None = frame_text id_info_ts (flag_endianness + flag_invalidate) 0 []
info_ts_text (Some moment) = frame_text id_info_ts flag_endianness 8 (moment_text Little moment)

-- the header of a message, an INFO_DST and an INFO_TS
abbrev pub front_text : InForce → List ℕ
front_text c =
    header_text minor_version vendor_unknown c.source
    ++ frame_text id_info_dst flag_endianness 12 c.destination.0
    ++ info_ts_text c.timestamp

-- the body of a DATA with these parameters and this payload, of the reader, the writer and the number of a DATA_FRAG
abbrev pub data_body : Fragment → ℕ → List ℕ → List ℕ → List ℕ
data_body f flags parameters payload =
    data_head (order_of flags) extra_flags least_octets_to_inline_qos f.reader_id f.writer_id f.writer_sn
    ++ parameters ++ payload

-- the message with that DATA, as long as its body is
abbrev pub message_with : InForce → Fragment → ℕ → List ℕ → List ℕ → List ℕ
message_with c f flags parameters payload =
    front_text c
    ++ frame_text id_data flags (length (data_body f flags parameters payload)) (data_body f flags parameters payload)

-- the message of a payload that became whole by a DATA_FRAG: with its own timestamp
abbrev pub message_of : InForce → Fragment → Kept → List ℕ
message_of c f k =
    message_with (record { source = c.source; destination = c.destination; timestamp = k.timestamp }) f k.flags
    k.parameters k.octets

-- What is kept of a writer is this after a DATA_FRAG, and the message is that of the payload that it made whole.
abbrev pub Answers : InForce → Fragment → List Kept → Option (List ℕ) → Heard → Type 0
Answers c f after message h = (after ≡ h.kept) × (message ≡ option_map (message_of c f) h.whole)
