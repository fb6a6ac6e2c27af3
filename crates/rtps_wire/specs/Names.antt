-- The numbers of the protocol, by name: versions, ids, flags, lengths in octets and bounds (RTPS 2.5, 8.3.5, 9.3,
-- 9.4.4, 9.4.5, 9.5, 9.6 and 10). `src/names.rt` has the same names for the code, but for the bounds: of these
-- `MAX_MESSAGE` stands in `src/header.rt`, and `MAX_BITS` in the crate `rtps_sets`. The greatest sequence number stands
-- in the crate `dds_base`, in `Bounds`.
use Rattle.std.specs.Prelude.{ℕ, ◌^◌, List, [], ◌∷◌}
use Rattle.dds_base.specs.Bounds.{window_width}

-- ---- the header of a message

-- the major version: messages of another are none
abbrev pub major_version : ℕ
major_version = 2

-- the minor version, as written
abbrev pub minor_version : ℕ
minor_version = 5

-- VENDORID_UNKNOWN, as written
abbrev pub vendor_unknown : List ℕ
vendor_unknown = 0 ∷ 0 ∷ []

-- ---- ids of submessages

-- the id of PAD
abbrev pub id_pad : ℕ
id_pad = 0x01

-- the id of ACKNACK
abbrev pub id_acknack : ℕ
id_acknack = 0x06

-- the id of HEARTBEAT
abbrev pub id_heartbeat : ℕ
id_heartbeat = 0x07

-- the id of GAP
abbrev pub id_gap : ℕ
id_gap = 0x08

-- the id of INFO_TS
abbrev pub id_info_ts : ℕ
id_info_ts = 0x09

-- the id of INFO_DST
abbrev pub id_info_dst : ℕ
id_info_dst = 0x0e

-- the id of DATA
abbrev pub id_data : ℕ
id_data = 0x15

-- ---- flags of submessages

-- E of each submessage, EndiannessFlag: its numbers are little-endian
abbrev pub flag_endianness : ℕ
flag_endianness = 0x01

-- I of INFO_TS, InvalidateFlag: what follows has no source timestamp
abbrev pub flag_invalidate : ℕ
flag_invalidate = 0x02

-- F of ACKNACK and HEARTBEAT, FinalFlag: no answer is asked for
abbrev pub flag_final : ℕ
flag_final = 0x02

-- L of HEARTBEAT, LivelinessFlag: the writer is asserted
abbrev pub flag_liveliness : ℕ
flag_liveliness = 0x04

-- Q of DATA, InlineQosFlag: parameters follow
abbrev pub flag_inline_qos : ℕ
flag_inline_qos = 0x02

-- D of DATA, DataFlag: the payload is a datum
abbrev pub flag_data : ℕ
flag_data = 0x04

-- K of DATA, KeyFlag: the payload is a key form
abbrev pub flag_key : ℕ
flag_key = 0x08

-- N of DATA, NonStandardPayloadFlag: the payload is none of these
abbrev pub flag_non_standard : ℕ
flag_non_standard = 0x10

-- ---- parameters of a DATA

-- ends the parameters
abbrev pub pid_sentinel : ℕ
pid_sentinel = 0x0001

-- the strength of the writer, in 4 octets
abbrev pub pid_ownership_strength : ℕ
pid_ownership_strength = 0x0006

-- the key, in 16 octets
abbrev pub pid_key_hash : ℕ
pid_key_hash = 0x0070

-- what is said of the instance, in the last of 4 octets
abbrev pub pid_status_info : ℕ
pid_status_info = 0x0071

-- the bit of the status info that says disposed
abbrev pub status_disposed : ℕ
status_disposed = 0x01

-- the bit of the status info that says unregistered
abbrev pub status_unregistered : ℕ
status_unregistered = 0x02

-- ---- lengths

-- a GUID prefix
abbrev pub len_prefix : ℕ
len_prefix = 12

-- an entity id
abbrev pub len_entity_id : ℕ
len_entity_id = 4

-- a key, as it stands in a key form and in a key hash
abbrev pub len_key : ℕ
len_key = 16

-- the value of a status info
abbrev pub len_status_info : ℕ
len_status_info = 4

-- the value of a strength
abbrev pub len_ownership_strength : ℕ
len_ownership_strength = 4

-- parameters have lengths that are multiples of this, and bodies as they are written
abbrev pub len_aligned : ℕ
len_aligned = 4

-- so many values has a half of a sequence number, and a half of a moment: four octets (9.3)
abbrev pub half_range : ℕ
half_range = 2 ^ 32

-- the header of a submessage: id, flags and length
abbrev pub len_submessage_header : ℕ
len_submessage_header = 4

-- extraFlags, as written
abbrev pub extra_flags : ℕ
extra_flags = 0

-- octetsToInlineQos where no octets are skipped: it counts from its own end over readerId, writerId and writerSN
abbrev pub least_octets_to_inline_qos : ℕ
least_octets_to_inline_qos = 16

-- ---- bounds

-- how many numbers, from its base on, a set can have (8.3.5.5)
abbrev pub max_bits : ℕ
max_bits = window_width

-- the longest message, in octets: one is a UDP datagram (9.5), and none over IPv4 is longer
abbrev pub max_message : ℕ
max_message = 65507
