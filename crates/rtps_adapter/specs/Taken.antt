-- What a peer reads of a value of another type (RTPS 2.5, 9.4.5: Data; 9.6: strength, status info; clause 10).
use Rattle.std.specs.Prelude.{◌≡◌, ℕ, ◌+◌, ◌<◌, ◌≤◌, ◌^◌, Bool, true, false, List, [], ◌++◌, length, Some, MatchBool}
use Rattle.dds_base.specs.declared.datum.Datum.{Datum as DatumOf}
use Rattle.dds_base.specs.declared.guid.EntityId.{EntityId}
use Rattle.dds_base.specs.declared.guid.GuidPrefix.{GuidPrefix}
use Rattle.dds_base.specs.declared.key.Key.{Key}
use Rattle.dds_base.specs.Bounds.{greatest_value}
use Rattle.dds_base.specs.DatumText.{IsDatum}
use Rattle.rtps_wire.specs.declared.data.ChangeBody.{ChangeBody}
use Rattle.rtps_wire.specs.declared.data.ChangeBody.TheVariants.{Write, Dispose, Unregister, DisposeUnregister}
use Rattle.rtps_wire.specs.declared.data.Data.{Data as DataOf}
use Rattle.rtps_wire.specs.declared.submessage.Submessage.TheVariants.{Data}
use Rattle.rtps_wire.specs.Data.{data_head, HasStatus, HasStrength, IsData}
use Rattle.rtps_wire.specs.Fields.{has_flag, order_of}
use Rattle.rtps_wire.specs.Names.{flag_data, flag_inline_qos, flag_key, flag_non_standard, id_data, least_octets_to_inline_qos}
use Rattle.rtps_wire.specs.Parameters.{Parameter, ReadsParameters}
use Rattle.rtps_wire.specs.Submessages.{Reads}
use Rattle.rtps_adapter.specs.declared.direction.Direction.TheVariants.{Inward}
use Rattle.rtps_adapter.specs.declared.kinds.Kind.TheVariants.{Opaque}
use Rattle.rtps_adapter.specs.declared.kinds.KeyRule.{KeyRule}
use Rattle.rtps_adapter.specs.declared.kinds.WriterKind.{WriterKind}
use Rattle.rtps_adapter.specs.Kinds.{kind_of, most_of}
use Rattle.rtps_adapter.specs.Keys.{key_by, key_alone}
use Rattle.rtps_adapter.specs.Payloads.{value_at}
use Rattle.rtps_adapter.specs.Turning.{Piece, turned}
use Rattle.rtps_adapter.specs.Filling.{filled}

-- A submessage is a DATA with these flags D and K, and its body is a head, octets that are skipped, parameters where
-- flag Q is set, and a payload.
pub record Carries (has_value has_key : Bool) (p : Piece) (reader writer : EntityId) (sn : ℕ) (ps : List Parameter)
    (payload : List ℕ)
    : Type 0 where
  pub extra : ℕ
  pub skipped : List ℕ
  pub from_parameters : List ℕ
  pub kind : p.id ≡ id_data
  pub standard : has_flag p.flags flag_non_standard ≡ false
  pub value_flag : has_flag p.flags flag_data ≡ has_value
  pub key_flag : has_flag p.flags flag_key ≡ has_key
  pub extra_small : extra < 2 ^ 16
  pub skipped_small : least_octets_to_inline_qos + length skipped < 2 ^ 16
  pub text : p.body ≡ data_head (order_of p.flags) extra (least_octets_to_inline_qos + length skipped) reader writer sn
      ++ (skipped ++ from_parameters)
  pub inline : MatchBool (has_flag p.flags flag_inline_qos)
      (ReadsParameters (order_of p.flags) from_parameters ps payload)
      ((ps ≡ []) × (payload ≡ from_parameters))

-- A write of another type is read by a peer as a write of its value, with the key that the rule finds, for the same
-- reader, of the same writer, with the same number and strength, where this is what submessages become, and values of the
-- writer have at most so many octets.
abbrev pub WritesAreRead : (List WriterKind → GuidPrefix → EntityId → ℕ) → (List WriterKind → GuidPrefix → Piece → Piece)
    → Type 0
WritesAreRead most becomes = (kinds : List WriterKind) (source : GuidPrefix) (p : Piece) (ps : List Parameter)
    (payload : List ℕ) (rule : KeyRule) (datum : DatumOf) (d : DataOf)
    → Carries true false p d.reader_id d.writer_id d.writer_sn ps payload
    → HasStatus ps false false → HasStrength (order_of p.flags) ps d.content.strength
    → kind_of kinds source d.writer_id ≡ Opaque rule
    → value_at payload ≡ Some datum.value → key_by rule datum.value ≡ Some datum.key → IsDatum datum
    → d.content.body ≡ Write datum → IsData d → length datum.value ≤ most kinds source d.writer_id
    → Reads (becomes kinds source p).id (becomes kinds source p).flags (becomes kinds source p).body (Data d)

-- Of what writes turn into it is so.
abbrev pub ValuesAreRead : Type 0
ValuesAreRead = WritesAreRead (λ kinds source writer. greatest_value) (turned Inward)

-- It is so too where numbers that can't be read stand in GAPs, of values that are no longer than the table says.
abbrev pub ValuesAreReadWithGaps : Type 0
ValuesAreReadWithGaps = WritesAreRead most_of filled

-- The parameters say that the change ends the instance of the key, and how.
abbrev pub SaysEnd : List Parameter → Key → ChangeBody → Type 0
SaysEnd ps k (Write d) = ⊥
SaysEnd ps k (Dispose key) = HasStatus ps true false × (key ≡ k)
SaysEnd ps k (Unregister key) = HasStatus ps false true × (key ≡ k)
SaysEnd ps k (DisposeUnregister key) = HasStatus ps true true × (key ≡ k)

-- A dispose or an unregister of another type is read by a peer as one of the key that the rule finds in its payload,
-- for the same reader, of the same writer, with the same number and strength, where this is what submessages become.
abbrev pub EndsAreRead : (List WriterKind → GuidPrefix → Piece → Piece) → Type 0
EndsAreRead becomes = (kinds : List WriterKind) (source : GuidPrefix) (p : Piece) (ps : List Parameter)
    (payload value : List ℕ) (rule : KeyRule) (k : Key) (d : DataOf) → Carries false true p d.reader_id d.writer_id d.writer_sn ps payload
    → SaysEnd ps k d.content.body → HasStrength (order_of p.flags) ps d.content.strength
    → kind_of kinds source d.writer_id ≡ Opaque rule
    → value_at payload ≡ Some value → key_alone rule value ≡ Some k → IsData d
    → Reads (becomes kinds source p).id (becomes kinds source p).flags (becomes kinds source p).body (Data d)

-- Of what these turn into it is so.
abbrev pub KeysAreRead : Type 0
KeysAreRead = EndsAreRead (turned Inward)

-- It is so too where numbers that can't be read stand in GAPs.
abbrev pub KeysAreReadWithGaps : Type 0
KeysAreReadWithGaps = EndsAreRead filled
