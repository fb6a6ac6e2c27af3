-- Reading a DATA_FRAG from left to right: what the code does, on lists. Nothing here has to be believed, since
-- `read_fragment` says what it reads by `DataFrag`.
--
-- RTPS 2.5, 9.4.5.4 (DataFrag).
use Rattle.std.specs.Prelude.{ℕ, ◌+◌, ◌-◌, ◌||◌, Bool, List, [], length, take, Option, Some, None, nat_lt, if◌then◌else◌}
use Rattle.std.specs.Int.{w16, w32}
use Rattle.dds_base.specs.declared.endianness.Endianness.{Endianness}
use Rattle.dds_base.specs.declared.guid.EntityId.{EntityId}
use Rattle.dds_base.specs.Fields.{number_at, octets_at, ◌>>=◌}
use Rattle.dds_base.specs.FieldPairs.{both}
use Rattle.rtps_wire.specs.Fields.{has_flag, order_of}
use Rattle.rtps_wire.specs.DataAt.{data_head_at}
use Rattle.rtps_wire.specs.ParametersAt.{parameters_at}
use Rattle.rtps_wire.specs.Names.{flag_inline_qos}
use Rattle.rtps_fragments.specs.DataFrag.{Fragment, count_of, data_flags, extent_of, flag_frag_non_standard, least_octets_to_inline_qos, max_carried}

-- fragmentStartingNum, fragmentsInSubmessage, fragmentSize, sampleSize, and what follows
unfoldable pub counts_at : Endianness → List ℕ → Option (ℕ × ℕ × ℕ × ℕ × List ℕ)
counts_at order bytes = do
  x ← both (both (number_at order w32) (both (number_at order w16) (number_at order w16))) (number_at order w32) bytes
  Some (x.0.0.0, x.0.0.1.0, x.0.0.1.1, x.0.1, x.1)

-- the octets of the parameters and of their sentinel, where flag Q is set, and what follows
unfoldable pub inline_at : ℕ → List ℕ → Option (List ℕ × List ℕ)
inline_at flags bytes = if has_flag flags flag_inline_qos then (do
  x ← parameters_at (order_of flags) bytes
  Some (take (length bytes - length x.1) bytes, x.1)) else Some ([], bytes)

-- a DATA_FRAG by what it says
abbrev pub said : ℕ → EntityId → EntityId → ℕ → ℕ → ℕ → ℕ → ℕ → List ℕ → List ℕ → Fragment
said flags reader writer sn first count size whole parameters octets = record {
  flags = flags;
  reader_id = reader;
  writer_id = writer;
  writer_sn = sn;
  fragment_starting_num = first;
  fragments_in_submessage = count;
  fragment_size = size;
  sample_size = whole;
  parameters = parameters;
  octets = octets;
}

-- the numbers are not those of fragments that can be kept
abbrev pub is_impossible : Fragment → Bool
is_impossible f =
    nat_lt f.writer_sn 1 || nat_lt f.fragment_starting_num 1 || nat_lt f.fragments_in_submessage 1
    || nat_lt f.fragment_size 1
    || nat_lt (count_of f.sample_size f.fragment_size) (f.fragment_starting_num - 1 + f.fragments_in_submessage)
    || nat_lt max_carried f.sample_size || nat_lt (max_carried - f.sample_size) (length f.parameters)

-- the DATA_FRAG with the octets of its fragments at the front, where these can be kept and are all there
unfoldable pub fragment_with : Fragment → List ℕ → Option Fragment
fragment_with f bytes = if is_impossible f then None else (do
  x ← octets_at (extent_of f) bytes
  Some (said f.flags f.reader_id f.writer_id f.writer_sn f.fragment_starting_num f.fragments_in_submessage
      f.fragment_size f.sample_size f.parameters x.0))

-- the DATA_FRAG that a body is, by the flags: none where flag N is set, or the body is no DATA_FRAG
unfoldable pub fragment_at : ℕ → List ℕ → Option Fragment
fragment_at flags body = if has_flag flags flag_frag_non_standard then None else (do
  n ← data_head_at (order_of flags) body
  c ← counts_at (order_of flags) n.4
  s ← (if nat_lt n.0 least_octets_to_inline_qos then None else octets_at (n.0 - least_octets_to_inline_qos) c.4)
  p ← inline_at flags s.1
  fragment_with (said (data_flags flags) n.1 n.2 n.3 c.0 c.1 c.2 c.3 p.0 []) p.1)
