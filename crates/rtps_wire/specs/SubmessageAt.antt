-- Reading the body of a submessage from left to right: what the code does, on lists. Nothing here has to be
-- believed, since `read_message` says what it reads by `Submessages`.
--
-- RTPS 2.5, 8.3.4 and 9.4.5.
use Rattle.std.specs.Prelude.{ℕ, ◌+◌, ◌*◌, ◌==◌, ◌||◌, List, Option, Some, None, nat_lt, if◌then◌else◌}
use Rattle.std.specs.Option.{option_map}
use Rattle.std.specs.Int.{w32}
use Rattle.dds_base.specs.Fields.{number_at, ◌>>=◌}
use Rattle.dds_base.specs.FieldPairs.{both}
use Rattle.dds_base.specs.declared.guid.GuidPrefix.{GuidPrefix}
use Rattle.rtps_wire.specs.declared.acknack.AckNack.{AckNack}
use Rattle.rtps_wire.specs.declared.gap.Gap.{Gap}
use Rattle.rtps_wire.specs.declared.heartbeat.Heartbeat.{Heartbeat}
use Rattle.rtps_wire.specs.declared.submessage.Submessage.{Submessage}
use Rattle.rtps_wire.specs.declared.submessage.Submessage.TheVariants as submessages
use Rattle.rtps_wire.specs.Fields.{has_flag, order_of}
use Rattle.rtps_wire.specs.FieldAt.{entity_id_at, prefix_at, sn_at, count_at}
use Rattle.rtps_wire.specs.SetAt.{acknack_set_at, set_at}
use Rattle.rtps_wire.specs.DataAt.{data_at}
use Rattle.rtps_wire.specs.Names.{flag_final, flag_invalidate, flag_liveliness, half_range, id_acknack, id_data, id_gap, id_heartbeat, id_info_dst, id_info_ts, id_pad}

-- the prefix of an INFO_DST, if the body is long enough
unfoldable pub info_dst_at : List ℕ → Option GuidPrefix
info_dst_at body = do
  prefix ← prefix_at body
  Some prefix.0

-- the moment of an INFO_TS in units of 2^-32 second, or that it has none, by flag I; if the body is long enough
unfoldable pub info_ts_at : ℕ → List ℕ → Option (Option ℕ)
info_ts_at flags body = if has_flag flags flag_invalidate then Some None else (do
  x ← both (number_at (order_of flags) w32) (number_at (order_of flags) w32) body
  Some (Some (x.0.0 * half_range + x.0.1)))

-- the HEARTBEAT that a body is: firstSN is at least 1, and at most one more than lastSN
unfoldable pub heartbeat_at : ℕ → List ℕ → Option Heartbeat
heartbeat_at flags body = do
  (((((reader, writer), first), last), count), rest) ← both (both (both (both entity_id_at entity_id_at)
      (sn_at (order_of flags))) (sn_at (order_of flags))) (count_at (order_of flags)) body
  if nat_lt first 1 || nat_lt (last + 1) first then None else Some (record {
    reader_id = reader;
    writer_id = writer;
    first_sn = first;
    last_sn = last;
    count = count;
    final_flag = has_flag flags flag_final;
    liveliness_flag = has_flag flags flag_liveliness;
  })

-- the ACKNACK that a body is, if it has a set in it and is long enough
unfoldable pub acknack_at : ℕ → List ℕ → Option AckNack
acknack_at flags body = do
  ids ← both entity_id_at entity_id_at body
  set ← acknack_set_at (order_of flags) ids.1
  n ← count_at (order_of flags) set.1
  Some (record {
    reader_id = ids.0.0;
    writer_id = ids.0.1;
    reader_sn_state = set.0;
    count = n.0;
    final_flag = has_flag flags flag_final;
  })

-- the GAP that a body is: gapStart is at least 1
unfoldable pub gap_at : ℕ → List ℕ → Option Gap
gap_at flags body = do
  x ← both (both entity_id_at entity_id_at) (sn_at (order_of flags)) body
  set ← set_at (order_of flags) x.1
  if nat_lt x.0.1 1 then None
      else Some (record { reader_id = x.0.0.0; writer_id = x.0.0.1; gap_start = x.0.1; gap_list = set.0 })

-- the submessage of this id that a body is, by the flags; none where the id is not known, or the body not of its kind
unfoldable pub known_at : ℕ → ℕ → List ℕ → Option Submessage
known_at id flags body =
    if id == id_pad then Some submessages.Pad else
    (if id == id_info_dst then option_map submessages.InfoDst (info_dst_at body) else
    (if id == id_info_ts then option_map submessages.InfoTs (info_ts_at flags body) else
    (if id == id_heartbeat then option_map submessages.Heartbeat (heartbeat_at flags body) else
    (if id == id_data then option_map submessages.Data (data_at flags body) else
    (if id == id_acknack then option_map submessages.AckNack (acknack_at flags body) else
    (if id == id_gap then option_map submessages.Gap (gap_at flags body) else None))))))
