-- What is read of a message that is told.
use Rattle.std.proofs.Common.{◌≡◌, ◌≢◌, inl, ℕ, ◌+◌, ◌≤◌, ◌<◌, ◌^◌, Bool, true, false, eqb, List, [], ◌∷◌, ◌++◌, length, Option, Some, None, refl, sym, append_assoc, arith}
use Rattle.std.specs.Prelude.{IfSome, MatchBool}
use Rattle.std.specs.Int.{w16}
use Rattle.std.proofs.lemmas.Bool.{ne_eqb}
use Rattle.std.proofs.lemmas.List.{append-nil, length-append}
use Rattle.dds_base.specs.declared.endianness.Endianness.TheVariants.{Little}
use Rattle.dds_base.specs.Fields.{number}
use Rattle.rtps_wire.specs.declared.submessage.Submessage.TheVariants.{InfoTs}
use Rattle.rtps_wire.specs.Data.{data_head}
use Rattle.rtps_wire.specs.Fields.{has_flag, order_of}
use Rattle.rtps_wire.specs.Frames.{IsFrame, frame_text, runs_to_end}
use Rattle.rtps_wire.specs.InfoTs.{moment_text}
use Rattle.rtps_wire.specs.Messages.{ReadsFirst, header_text}
use Rattle.rtps_wire.specs.Parameters.{ReadsParameters}
use Rattle.rtps_wire.proofs.TestLaws.{match_false}
use Rattle.rtps_wire.proofs.WireFields.{len_16}
use Rattle.rtps_fragments.specs.Telling.{data_body, info_ts_text, message_of}
use Rattle.rtps_fragments.specs.Readable.{DataIsRead, MessagesAreRead}
use Rattle.rtps_fragments.proofs.Texts.{body_len}

frame_len : (id flags n : ℕ) (body : List ℕ) → length (frame_text id flags n body) ≡ 4 + length body
frame_len id flags n body =
    omega (arith, length-append (number (order_of flags) w16 n) body, len_16 (order_of flags) n)

moment_len : (m : ℕ) → length (moment_text Little m) ≡ 8
moment_len m = refl

ts_len : (o : Option ℕ) → length (info_ts_text o) ≤ 12
ts_len None = omega arith
ts_len (Some m) = omega (arith, frame_len 9 1 8 (moment_text Little m), moment_len m)

-- an INFO_TS is read, whatever follows
ts_first : (o : Option ℕ) (rest : List ℕ) → IfSome o (λ m. m < 2 ^ 64) → ReadsFirst (info_ts_text o ++ rest) (InfoTs o) rest
ts_first None rest small = (
  9,
  3,
  [],
  record { len = 0; small = omega arith; text = refl; extent = refl },
  record { kind = refl; flags_are = refl; body_is = tt; valid = tt },
)
ts_first (Some m) rest small = (
  9,
  1,
  moment_text Little m,
  record { len = 8; small = omega arith; text = refl; extent = moment_len m },
  record { kind = refl; flags_are = refl; body_is = ([], sym (append-nil (moment_text Little m))); valid = small },
)

-- the DATA stands at the end
data_frame : (flags : ℕ) (body : List ℕ) → 1 ≤ length body → length body < 2 ^ 16
    → IsFrame (frame_text 21 flags (length body) body) 21 flags body []
data_frame flags body some small =
    let other : length body ≢ 0 = λ e. omega (arith, some, e) in
    let no-end : eqb (length body) 0 ≡ false = ne_eqb (length body) 0 other in
    let runs : runs_to_end 21 (length body) ≡ false = rw no-end refl in
    record {
      len = length body;
      small = small;
      text = sym (append-nil (frame_text 21 flags (length body) body));
      extent = match_false (runs_to_end 21 (length body)) ([] ≡ []) (length body ≡ length body) runs refl;
    }

regroup : (h d t x : List ℕ) → ((h ++ d) ++ t) ++ x ≡ h ++ (d ++ (t ++ x))
regroup h d t x = simp append_assoc

pub messages_are_read : MessagesAreRead
messages_are_read c f k s can reads =
    let body : List ℕ = data_body f k.flags k.parameters k.octets in
    let data-text : List ℕ = frame_text 21 k.flags (length (data_body f k.flags k.parameters k.octets))
    (data_body f k.flags k.parameters k.octets) in
    let ts : List ℕ = info_ts_text k.timestamp in
    let dst : List ℕ = frame_text 14 1 12 c.destination.0 in
    let head : List ℕ = header_text 5 (0 ∷ 0 ∷ []) c.source in
    let n = body_len f k.flags k.parameters k.octets can.fragment in
    let parts = regroup head dst ts data-text in
    let size : length (message_of c f k) ≤ 65507 =
    omega (
      arith,
      length-append ((head ++ dst) ++ ts) data-text,
      length-append (head ++ dst) ts,
      length-append head dst,
      frame_len 14 1 12 c.destination.0,
      ts_len k.timestamp,
      frame_len 21 k.flags (length body) body,
      n,
      can.source,
      can.destination,
      can.kept.octets,
      can.kept.carried,
    ) in
    record {
      body = dst ++ (ts ++ data-text);
      left = [];
      header = record {
        minor = 5;
        vendor = 0 ∷ 0 ∷ [];
        two = refl;
        prefix = can.source;
        header = parts;
        short = size;
      };
      submessages = (
        ts ++ data-text,
        (
          14,
          1,
          c.destination.0,
          record { len = 12; small = omega arith; text = refl; extent = can.destination },
          record { kind = refl; flags_are = tt; body_is = ([], sym (append-nil c.destination.0)); valid = can.destination },
        ),
        (
          data-text,
          ts_first k.timestamp data-text can.timestamp,
          (
            [],
            (
              21,
              k.flags,
              body,
              data_frame k.flags body (omega (arith, n))
                  (omega (arith, n, can.kept.octets, can.kept.carried)),
              reads,
            ),
            (inl (omega arith), refl),
          ),
        ),
      );
      stop = omega arith;
    }

pub data_is_read : DataIsRead
data_is_read f k ps d v standard inline says reader writer sn =
    let head : List ℕ = data_head (order_of k.flags) 0 16 f.reader_id f.writer_id f.writer_sn in
    record {
      kind = refl;
      flags_are = standard;
      body_is = record {
        extra = 0;
        skipped = [];
        from_parameters = k.parameters ++ k.octets;
        parameters = ps;
        payload = k.octets;
        extra_small = omega arith;
        skipped_small = omega arith;
        text = rw (reader, writer, sn) (append_assoc head k.parameters k.octets);
        inline = by_flag (has_flag k.flags 2) inline;
        says = says;
      };
      valid = record {
        reader = rw reader v.reader;
        writer = rw writer v.writer;
        first = rw sn v.first_sn;
        small = rw sn v.small_sn;
      };
    }
  where
    by_flag : (b : Bool)
        → MatchBool b (ReadsParameters (order_of k.flags) (k.parameters ++ k.octets) ps k.octets)
        ((k.parameters ≡ []) × (ps ≡ []))
        → MatchBool b (ReadsParameters (order_of k.flags) (k.parameters ++ k.octets) ps k.octets)
        ((ps ≡ []) × (k.octets ≡ k.parameters ++ k.octets))
    by_flag true i = i
    by_flag false i = (i.1, rw i.0 refl)
