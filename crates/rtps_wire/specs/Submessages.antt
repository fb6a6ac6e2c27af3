-- Submessages by cases: id, flags, body, and when each is valid (RTPS 2.5, 8.3.4 and 9.4.5).
use Rattle.std.specs.Prelude.{◌≡◌, ℕ, ◌+◌, ◌-◌, ◌%◌, ◌<◌, ◌≤◌, ◌^◌, true, false, List, [], ◌∷◌, ◌++◌, length, replicate, Some, None, if◌then◌else◌}
use Rattle.dds_base.specs.Bounds.{usual_value}
use Rattle.rtps_wire.specs.declared.data.ChangeBody.{ChangeBody}
use Rattle.rtps_wire.specs.declared.data.ChangeBody.TheVariants.{Write}
use Rattle.rtps_wire.specs.declared.submessage.Submessage.{Submessage}
use Rattle.rtps_wire.specs.declared.submessage.Submessage.TheVariants.{Pad, InfoDst, InfoTs, Data, Heartbeat, AckNack, Gap, Other}
use Rattle.rtps_wire.specs.Fields.{has_flag}
use Rattle.rtps_wire.specs.Frames.{frame_text}
use Rattle.rtps_wire.specs.Sets.{IsSet}
use Rattle.rtps_wire.specs.Pad.{ReadsPad, text_of_pad}
use Rattle.rtps_wire.specs.InfoDst.{ReadsInfoDst, text_of_info_dst}
use Rattle.rtps_wire.specs.InfoTs.{ReadsInfoTs, text_of_info_ts}
use Rattle.rtps_wire.specs.Heartbeat.{IsHeartbeat, ReadsHeartbeat, text_of_heartbeat}
use Rattle.rtps_wire.specs.AckNack.{IsAckNack, ReadsAckNack, text_of_acknack}
use Rattle.rtps_wire.specs.Gap.{IsGap, ReadsGap, text_of_gap}
use Rattle.rtps_wire.specs.Data.{IsData, ReadsData, IsContent, content_flags, text_of_data}
use Rattle.rtps_wire.specs.Names.{flag_endianness, flag_final, flag_invalidate, flag_liveliness, flag_non_standard, id_acknack, id_data, id_gap, id_heartbeat, id_info_dst, id_info_ts, id_pad, len_aligned, len_prefix}

-- the id of a submessage
abbrev pub id_of : Submessage → ℕ
id_of Pad = id_pad
id_of (AckNack a) = id_acknack
id_of (Heartbeat h) = id_heartbeat
id_of (Gap g) = id_gap
id_of (InfoTs moment) = id_info_ts
id_of (InfoDst prefix) = id_info_dst
id_of (Data d) = id_data
id_of (Other id) = id

-- The flags say so: I of INFO_TS, no N of DATA, F of ACKNACK, F and L of HEARTBEAT.
abbrev pub FlagsAre : ℕ → Submessage → Type 0
FlagsAre flags (InfoTs None) = has_flag flags flag_invalidate ≡ true
FlagsAre flags (InfoTs (Some moment)) = has_flag flags flag_invalidate ≡ false
FlagsAre flags (Data d) = has_flag flags flag_non_standard ≡ false
FlagsAre flags (AckNack a) = has_flag flags flag_final ≡ a.final_flag
FlagsAre flags (Heartbeat h) =
    (has_flag flags flag_final ≡ h.final_flag) × (has_flag flags flag_liveliness ≡ h.liveliness_flag)
FlagsAre flags s = Unit {0}

-- The body is that of the submessage. Bytes after its last field are not looked at.
abbrev pub BodyIs : ℕ → List ℕ → Submessage → Type 0
BodyIs flags body Pad = ReadsPad flags body
BodyIs flags body (InfoDst prefix) = ReadsInfoDst flags body prefix
BodyIs flags body (InfoTs moment) = ReadsInfoTs flags body moment
BodyIs flags body (Data d) = ReadsData flags body d
BodyIs flags body (Heartbeat h) = ReadsHeartbeat flags body h
BodyIs flags body (AckNack a) = ReadsAckNack flags body a
BodyIs flags body (Gap g) = ReadsGap flags body g
BodyIs flags body (Other id) = Unit {0}

-- when it is valid, as far as its body does not say so
abbrev pub IsValid : Submessage → Type 0
IsValid Pad = Unit {0}
IsValid (InfoDst prefix) = length prefix.0 ≡ len_prefix
IsValid (InfoTs None) = Unit {0}
IsValid (InfoTs (Some moment)) = moment < 2 ^ 64
IsValid (Data d) = IsData d
IsValid (Heartbeat h) = IsHeartbeat h
IsValid (AckNack a) = IsAckNack a
IsValid (Gap g) = IsGap g
IsValid (Other id) = ⊥

-- This id, these flags and this body are the submessage.
pub record IsKnownKind (id flags : ℕ) (body : List ℕ) (s : Submessage) : Type 0 where
  pub kind : id ≡ id_of s
  pub flags_are : FlagsAre flags s
  pub body_is : BodyIs flags body s
  pub valid : IsValid s

-- What is no valid submessage of a known kind is `Other`, by its id.
abbrev pub Reads : ℕ → ℕ → List ℕ → Submessage → Type 0
Reads id flags body (Other other) = (other ≡ id) × ((s : Submessage) → IsKnownKind id flags body s → ⊥)
Reads id flags body s = IsKnownKind id flags body s

-- what can be written
abbrev pub IsSpellable : Submessage → Type 0
IsSpellable (Data d) = IsData d × IsContent d.content
IsSpellable (AckNack a) = IsAckNack a × IsSet a.reader_sn_state
IsSpellable (Gap g) = IsGap g × IsSet g.gap_list
IsSpellable s = IsValid s

-- ---- how long its value is

-- the octets of the value that a change has: none where it is no write
abbrev pub octets_of_change : ChangeBody → ℕ
octets_of_change (Write d) = length d.value
octets_of_change other = 0

-- the octets of the value that a submessage has: none where it is no DATA
abbrev pub value_octets : Submessage → ℕ
value_octets (Data d) = octets_of_change d.content.body
value_octets other = 0

-- the octets of the values of all of these
abbrev pub all_value_octets : List Submessage → ℕ
all_value_octets [] = 0
all_value_octets (s ∷ ss) = value_octets s + all_value_octets ss

-- its value is no longer than usual
abbrev pub HasUsualValue : Submessage → Type 0
HasUsualValue s = value_octets s ≤ usual_value

-- ---- as written: little-endian, with no flag but the one that says so and those of the submessage

-- the flags of a submessage, as it is written
abbrev pub flags_of : Submessage → ℕ
flags_of (InfoTs None) = flag_endianness + flag_invalidate
flags_of (Data d) = content_flags d.content
flags_of (Heartbeat h) =
    flag_endianness + (if h.final_flag then flag_final else 0) + (if h.liveliness_flag then flag_liveliness else 0)
flags_of (AckNack a) = flag_endianness + (if a.final_flag then flag_final else 0)
flags_of s = flag_endianness

-- the fields
abbrev pub text_of : Submessage → List ℕ
text_of Pad = text_of_pad
text_of (InfoDst prefix) = text_of_info_dst prefix
text_of (InfoTs moment) = text_of_info_ts moment
text_of (Data d) = text_of_data d
text_of (Heartbeat h) = text_of_heartbeat h
text_of (AckNack a) = text_of_acknack a
text_of (Gap g) = text_of_gap g
text_of (Other id) = []

-- zeros up to a multiple of 4
abbrev pub padding : ℕ → List ℕ
padding len = replicate ((len_aligned - len % len_aligned) % len_aligned) 0

-- the body of a submessage, as it is written: its fields, and zeros up to a multiple of 4 octets
abbrev pub body_of : Submessage → List ℕ
body_of s = text_of s ++ padding (length (text_of s))

-- the one written form of a submessage: its id, its flags, the length of its body, and the body
abbrev pub spelling_of_submessage : Submessage → List ℕ
spelling_of_submessage s = frame_text (id_of s) (flags_of s) (length (body_of s)) (body_of s)
