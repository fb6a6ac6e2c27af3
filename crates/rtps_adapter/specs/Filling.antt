-- Which numbers a peer could not read, and the GAP that stands for each (RTPS 2.5, 9.4.5: Data, DataFrag and Gap).
--
-- 0...............8...............16..............24.............31
-- |          extraFlags           |       octetsToInlineQos       |
-- |                           readerId                            |
-- |                           writerId                            |
-- |                 writerSN: high half, low half                 |
use Rattle.std.specs.Prelude.{ℕ, ◌+◌, ◌==◌, ◌&&◌, ◌||◌, Bool, true, not, is_some, List, length, find, nat_lt, Option, None, Some, if◌then◌else◌}
use Rattle.std.specs.Option.{option_map_or}
use Rattle.dds_base.specs.declared.guid.EntityId.{EntityId}
use Rattle.dds_base.specs.declared.guid.GuidPrefix.{GuidPrefix}
use Rattle.dds_base.specs.Bounds.{max_sn}
use Rattle.dds_base.specs.Fields.{octets_at, ◌>>=◌}
use Rattle.rtps_sets.specs.NumberSet.{empty_from}
use Rattle.rtps_wire.specs.declared.gap.Gap.{Gap}
use Rattle.rtps_wire.specs.Fields.{has_flag, order_of}
use Rattle.rtps_wire.specs.FieldAt.{entity_id_at, sn_at}
use Rattle.rtps_wire.specs.Gap.{text_of_gap}
use Rattle.rtps_wire.specs.Names.{flag_data, flag_endianness, flag_key, flag_non_standard, id_data, id_gap}
use Rattle.rtps_adapter.specs.declared.kinds.WriterKind.{WriterKind}
use Rattle.rtps_adapter.specs.declared.direction.Direction.TheVariants.{Inward}
use Rattle.rtps_adapter.specs.Kinds.{is_of, kind_of, most_of, rule_of}
use Rattle.rtps_adapter.specs.Turning.{Piece, piece_of, Payload, foreign_payload, turned_payload, turned}

-- the id of DATA_FRAG
abbrev pub id_data_frag : ℕ
id_data_frag = 0x16

-- the head of a DATA_FRAG: that of a DATA, fragmentStartingNum, fragmentsInSubmessage, fragmentSize and sampleSize
abbrev pub len_data_frag_head : ℕ
len_data_frag_head = 32

-- what stands in a datum before its value: representation, options, key and length
abbrev pub len_datum_head : ℕ
len_datum_head = 24

-- the reader, the writer and the number that a DATA and a DATA_FRAG name; none where the head is cut, or the number is
-- none of those that a GAP can have
unfoldable pub named_at : ℕ → List ℕ → Option (EntityId × EntityId × ℕ)
named_at flags body = do
  from ← octets_at 4 body
  reader ← entity_id_at from.1
  writer ← entity_id_at reader.1
  sn ← sn_at (order_of flags) writer.1
  if nat_lt sn.0 1 || nat_lt max_sn (sn.0 + 1) then None else Some (reader.0, writer.0, sn.0)

-- no peer reads what a payload turns into, where values have at most so many octets: nothing, or a datum that is too long
abbrev pub is_unread : ℕ → Option (List ℕ) → Bool
is_unread most None = true
is_unread most (Some octets) = nat_lt (len_datum_head + most) (length octets)

-- one of the flags D, K and N is set, so the DATA has a payload, though not one of a form that a peer reads
abbrev pub shows_payload : ℕ → Bool
shows_payload flags = has_flag flags flag_data || has_flag flags flag_key || has_flag flags flag_non_standard

-- A peer could not read the number: that of a DATA of another type than the datum, whose payload can't be found or
-- can't be turned, or makes a datum that is too long, and that of a DATA_FRAG of a writer that the table names.
abbrev pub is_lost : List WriterKind → GuidPrefix → EntityId → ℕ → ℕ → List ℕ → Bool
is_lost kinds source writer id flags body =
    if id == id_data then is_some (rule_of (kind_of kinds source writer))
    && option_map_or (λ (x : Payload). is_unread (most_of kinds source writer) (turned_payload Inward x))
    (foreign_payload kinds source id flags body)
    (shows_payload flags)
    else id == id_data_frag
    && (is_some (find (is_of source writer) kinds) && not (nat_lt (length body) len_data_frag_head))

-- the GAP of one number
abbrev pub gap_of : EntityId → EntityId → ℕ → Gap
gap_of reader writer sn =
    record { reader_id = reader; writer_id = writer; gap_start = sn; gap_list = empty_from (sn + 1) }

-- the GAP of the number of a submessage that a peer could not read
unfoldable pub lost : List WriterKind → GuidPrefix → ℕ → ℕ → List ℕ → Option Gap
lost kinds source id flags body = do
  x ← named_at flags body
  if is_lost kinds source x.1 id flags body then Some (gap_of x.0 x.1 x.2) else None

-- a GAP as a submessage
abbrev pub gap_piece : Gap → Piece
gap_piece g = piece_of id_gap flag_endianness (text_of_gap g)

-- what a submessage turns into on its way to a peer, where the numbers that this could not read stand in GAPs
abbrev pub filled : List WriterKind → GuidPrefix → Piece → Piece
filled kinds source p = option_map_or gap_piece (lost kinds source p.id p.flags p.body) (turned Inward kinds source p)
