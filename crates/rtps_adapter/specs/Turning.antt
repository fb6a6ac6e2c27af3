-- What a submessage turns into, on its way from the network to a peer or back (RTPS 2.5, 9.4.5).
use Rattle.std.specs.Prelude.{ℕ, ◌-◌, ◌==◌, ◌&&◌, Bool, not, List, ◌++◌, length, take, Option, None, Some, unwrap_or, if◌then◌else◌}
use Rattle.std.specs.Int.RustNames.{bit_or}
use Rattle.dds_base.specs.declared.guid.GuidPrefix.{GuidPrefix}
use Rattle.dds_base.specs.Fields.{◌>>=◌}
use Rattle.rtps_wire.specs.Fields.{has_flag}
use Rattle.rtps_wire.specs.Frames.{frame_text}
use Rattle.rtps_wire.specs.Names.{flag_data, flag_key, flag_non_standard, id_data}
use Rattle.rtps_wire.specs.Submessages.{padding}
use Rattle.rtps_adapter.specs.declared.kinds.KeyRule.{KeyRule}
use Rattle.rtps_adapter.specs.declared.kinds.WriterKind.{WriterKind}
use Rattle.rtps_adapter.specs.declared.direction.Direction.{Direction}
use Rattle.rtps_adapter.specs.declared.direction.Direction.TheVariants.{Inward, Outward}
use Rattle.rtps_adapter.specs.Kinds.{kind_of, rule_of}
use Rattle.rtps_adapter.specs.Opened.{payload_at}
use Rattle.rtps_adapter.specs.Payloads.{inward_payload, outward_payload}

-- a submessage before its body is read, and its octets
pub record Piece : Type 0 where
  pub id : ℕ
  pub flags : ℕ
  pub body : List ℕ
  pub text : List ℕ

-- a submessage that is written anew
abbrev pub piece_of : ℕ → ℕ → List ℕ → Piece
piece_of id flags body =
    record { id = id; flags = flags; body = body; text = frame_text id flags (length body) body }

-- The payload of a DATA, which is a value or a key: a flag says which.
pub record Payload : Type 0 where
  pub rule : KeyRule
  pub is_key : Bool
  pub front : List ℕ
  pub octets : List ℕ

-- a DATA has a payload if one of the flags D and K is set
abbrev pub has_payload : ℕ → Bool
has_payload flags = if has_flag flags flag_data then not (has_flag flags flag_key) else has_flag flags flag_key

-- the payload that has to be turned: that of a DATA of a writer whose topic carries another type than the datum
unfoldable pub foreign_payload : List WriterKind → GuidPrefix → ℕ → ℕ → List ℕ → Option Payload
foreign_payload kinds source id flags body = if id == id_data && has_payload flags then (do
  x ← payload_at flags body
  rule ← rule_of (kind_of kinds source x.0)
  Some (record {
    rule = rule;
    is_key = has_flag flags flag_key;
    front = take (length body - length x.1) body;
    octets = x.1;
  })) else None

-- what a payload turns into, by the direction
unfoldable pub turned_payload : Direction → Payload → Option (List ℕ)
turned_payload Inward p = inward_payload p.rule p.is_key p.octets
turned_payload Outward p = outward_payload p.rule p.is_key p.octets

-- octets, and zeros up to a multiple of 4
abbrev pub aligned : List ℕ → List ℕ
aligned octets = octets ++ padding (length octets)

-- the flags and the body of a DATA that has to be turned: with the other payload, or where its own can't be turned, as
-- it stood, with the flag N, by which nobody takes its payload for another
unfoldable pub changed : Direction → List WriterKind → GuidPrefix → ℕ → ℕ → List ℕ → Option (ℕ × List ℕ)
changed direction kinds source id flags body = do
  p ← foreign_payload kinds source id flags body
  Some (unwrap_or (turned_payload direction p >>= λ octets. Some (flags, aligned (p.front ++ octets)))
      (bit_or flags flag_non_standard, body))

-- what a submessage turns into: all but such a DATA stands as it is
abbrev pub turned : Direction → List WriterKind → GuidPrefix → Piece → Piece
turned direction kinds source p = unwrap_or (changed direction kinds source p.id p.flags p.body >>= λ x.
    Some (piece_of p.id x.0 x.1)) p
