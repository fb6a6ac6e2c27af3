-- DATA_FRAG: some consecutive fragments of the payload of a change (RTPS 2.5, 8.3.8.3 and 9.4.5.4).
--
-- 0...............8...............16..............24.............31
-- |          extraFlags           |       octetsToInlineQos       |
-- |                           readerId                            |
-- |                           writerId                            |
-- |                 writerSN: high half, low half                 |
-- |                      fragmentStartingNum                      |
-- |     fragmentsInSubmessage     |         fragmentSize          |
-- |                          sampleSize                           |
-- |    octets that are skipped: octetsToInlineQos less 28         |
-- |         parameters up to the sentinel, with flag Q            |
-- |      the fragments, and octets that are not looked at         |
use Rattle.std.specs.Prelude.{◌≡◌, ℕ, ◌+◌, ◌-◌, ◌*◌, ◌/◌, ◌≤◌, ◌<◌, ◌^◌, min, false, List, [], ◌++◌, length, MatchBool, if◌then◌else◌}
use Rattle.std.specs.Int.{w16, w32}
use Rattle.dds_base.specs.declared.endianness.Endianness.{Endianness}
use Rattle.dds_base.specs.declared.guid.EntityId.{EntityId}
use Rattle.dds_base.specs.Bounds.{max_sn}
use Rattle.dds_base.specs.Fields.{number}
use Rattle.rtps_wire.specs.Data.{data_head}
use Rattle.rtps_wire.specs.Fields.{has_flag, order_of, IsEntityId}
use Rattle.rtps_wire.specs.Names.{flag_data, flag_endianness, flag_inline_qos, flag_key}
use Rattle.rtps_wire.specs.Parameters.{Parameter, ReadsParameters}

-- the id of DATA_FRAG
abbrev pub id_data_frag : ℕ
id_data_frag = 0x16

-- K of DATA_FRAG, KeyFlag: the payload is a key
abbrev pub flag_frag_key : ℕ
flag_frag_key = 0x04

-- N of DATA_FRAG, NonStandardPayloadFlag: the payload is of another form
abbrev pub flag_frag_non_standard : ℕ
flag_frag_non_standard = 0x08

-- octetsToInlineQos where no octets are skipped: it counts from its own end over readerId up to sampleSize
abbrev pub least_octets_to_inline_qos : ℕ
least_octets_to_inline_qos = 28

-- So many octets of parameters and payload a DATA carries in one datagram, behind the header of a message, an INFO_DST,
-- an INFO_TS, the header of the DATA and its head. The bound is this project's: a message has at most 65,507 octets.
abbrev pub max_carried : ℕ
max_carried = 65435

-- What a DATA_FRAG says. The flags are those of a DATA with this payload.
pub record Fragment : Type 0 where
  pub flags : ℕ
  pub reader_id : EntityId
  pub writer_id : EntityId
  pub writer_sn : ℕ
  pub fragment_starting_num : ℕ
  pub fragments_in_submessage : ℕ
  pub fragment_size : ℕ
  pub sample_size : ℕ
  pub parameters : List ℕ
  pub octets : List ℕ

-- how many fragments of a size a payload has: the last may be shorter
abbrev pub count_of : ℕ → ℕ → ℕ
count_of sample_size fragment_size = (sample_size + fragment_size - 1) / fragment_size

-- so many octets of the payload stand before the fragments
abbrev pub place_of : Fragment → ℕ
place_of f = (f.fragment_starting_num - 1) * f.fragment_size

-- so many octets are the fragments: the last of the payload ends with it
abbrev pub extent_of : Fragment → ℕ
extent_of f = min (f.fragments_in_submessage * f.fragment_size) (f.sample_size - place_of f)

-- Fragments are counted from 1, at least one is there, and none is beyond the payload. A DATA can carry the payload.
pub record IsFragment (f : Fragment) : Type 0 where
  pub reader : IsEntityId f.reader_id
  pub writer : IsEntityId f.writer_id
  pub first_sn : 1 ≤ f.writer_sn
  pub small_sn : f.writer_sn ≤ max_sn
  pub first : 1 ≤ f.fragment_starting_num
  pub some : 1 ≤ f.fragments_in_submessage
  pub sized : 1 ≤ f.fragment_size
  pub small_size : f.fragment_size < 2 ^ 16
  pub within : f.fragment_starting_num - 1 + f.fragments_in_submessage ≤ count_of f.sample_size f.fragment_size
  pub carried : length f.parameters + f.sample_size ≤ max_carried
  pub extent : length f.octets ≡ extent_of f

-- the flags of a DATA: E and Q as they are, D or K by flag K
abbrev pub data_flags : ℕ → ℕ
data_flags flags =
    (if has_flag flags flag_endianness then flag_endianness else 0)
    + (if has_flag flags flag_inline_qos then flag_inline_qos else 0)
    + (if has_flag flags flag_frag_key then flag_key else flag_data)

-- the fields up to sampleSize
abbrev pub frag_head : Endianness → ℕ → ℕ → Fragment → List ℕ
frag_head order extra way f =
    data_head order extra way f.reader_id f.writer_id f.writer_sn
    ++ (number order w32 f.fragment_starting_num
    ++ (number order w16 f.fragments_in_submessage ++ number order w16 f.fragment_size)
    ++ number order w32 f.sample_size)

-- Octets may stand between the fields and what follows: octetsToInlineQos says how many. Parameters follow where flag Q
-- is set, and then the fragments. What stands behind them is not looked at.
pub record ReadsFragment (flags : ℕ) (body : List ℕ) (f : Fragment) : Type 0 where
  pub extra : ℕ
  pub skipped : List ℕ
  pub from_fragments : List ℕ
  pub parameters : List Parameter
  pub after : List ℕ
  pub standard : has_flag flags flag_frag_non_standard ≡ false
  pub flags_are : f.flags ≡ data_flags flags
  pub extra_small : extra < 2 ^ 16
  pub skipped_small : least_octets_to_inline_qos + length skipped < 2 ^ 16
  pub small_num : f.fragment_starting_num < 2 ^ 32
  pub small_count : f.fragments_in_submessage < 2 ^ 16
  pub text : body ≡ frag_head (order_of flags) extra (least_octets_to_inline_qos + length skipped) f
      ++ (skipped ++ (f.parameters ++ from_fragments))
  pub inline : MatchBool (has_flag flags flag_inline_qos)
      (ReadsParameters (order_of flags) (f.parameters ++ from_fragments) parameters from_fragments)
      (f.parameters ≡ [])
  pub fragments : from_fragments ≡ f.octets ++ after
  pub valid : IsFragment f
