-- DATA: what a writer says of an instance (RTPS 2.5, 9.4.5: Data; 9.6: strength, key hash and status info).
--
-- 0...............8...............16..............24.............31
-- |          extraFlags           |       octetsToInlineQos       |
-- |                           readerId                            |
-- |                           writerId                            |
-- |                 writerSN: high half, low half                 |
-- |    octets that are skipped: octetsToInlineQos less 16         |
-- |         parameters up to the sentinel, with flag Q            |
-- |      a datum with flag D, or a key form with flag K           |
use Rattle.std.specs.Prelude.{◌≡◌, ℕ, ◌+◌, ◌≤◌, ◌<◌, ◌^◌, Bool, true, false, List, [], ◌∷◌, ◌++◌, length, Option, Some, None, MatchBool, IfSome, FitsSigned, ℤ}
use Rattle.std.specs.Int.{w16, w32}
use Rattle.dds_base.specs.declared.endianness.Endianness.{Endianness}
use Rattle.dds_base.specs.declared.endianness.Endianness.TheVariants.{Little}
use Rattle.dds_base.specs.declared.guid.EntityId.{EntityId}
use Rattle.dds_base.specs.declared.key.Key.{Key}
use Rattle.dds_base.specs.Bounds.{max_sn}
use Rattle.dds_base.specs.Fields.{number}
use Rattle.dds_base.specs.DatumText.{IsDatum, ReadsDatum, ReadsKey, spelling_of_datum, spelling_of_key}
use Rattle.dds_base.specs.declared.datum.Datum.{Datum}
use Rattle.rtps_wire.specs.declared.data.ChangeBody.{ChangeBody}
use Rattle.rtps_wire.specs.declared.data.ChangeBody.TheVariants.{Write, Dispose, Unregister, DisposeUnregister}
use Rattle.rtps_wire.specs.declared.data.Data.{Data}
use Rattle.rtps_wire.specs.declared.data.DataContent.{DataContent}
use Rattle.rtps_wire.specs.Fields.{has_flag, order_of, sn_text, count_text, IsEntityId}
use Rattle.rtps_wire.specs.Parameters.{Parameter, parameter_text, ReadsParameters, parameter_value, status_of}
use Rattle.rtps_wire.specs.Names.{extra_flags, flag_data, flag_endianness, flag_inline_qos, flag_key, least_octets_to_inline_qos, len_key, pid_key_hash, pid_ownership_strength, pid_sentinel, pid_status_info, status_disposed, status_unregistered}

-- extraFlags, octetsToInlineQos, readerId, writerId, writerSN
abbrev pub data_head : Endianness → ℕ → ℕ → EntityId → EntityId → ℕ → List ℕ
data_head order extra way reader writer sn =
    number order w16 extra ++ number order w16 way ++ reader.0 ++ writer.0 ++ sn_text order sn

-- The status info says this of the instance, by two of its bits. The others are not looked at.
abbrev pub HasStatus : List Parameter → Bool → Bool → Type 0
HasStatus ps disposed unregistered =
    (has_flag (status_of ps) status_disposed ≡ disposed) × (has_flag (status_of ps) status_unregistered ≡ unregistered)

-- Where the key stands, by the flags D and K: in a datum, in a key form, or in the key hash.
abbrev pub ShowsKey : Bool → Bool → List Parameter → List ℕ → Key → Type 0
ShowsKey true true ps payload k = ⊥
ShowsKey true false ps payload k = (value : List ℕ) × ReadsDatum payload (record { key = k; value = value })
ShowsKey false true ps payload k = ReadsKey payload k
ShowsKey false false ps payload k = parameter_value pid_key_hash ps ≡ Some k.0

-- What the change does to its instance, by the flags D and K, the parameters and the payload.
abbrev pub SaysBody : ℕ → List Parameter → List ℕ → ChangeBody → Type 0
SaysBody flags ps payload (Write d) =
    HasStatus ps false false × (has_flag flags flag_data ≡ true) × (has_flag flags flag_key ≡ false)
    × ReadsDatum payload d
SaysBody flags ps payload (Dispose k) =
    HasStatus ps true false × ShowsKey (has_flag flags flag_data) (has_flag flags flag_key) ps payload k
SaysBody flags ps payload (Unregister k) =
    HasStatus ps false true × ShowsKey (has_flag flags flag_data) (has_flag flags flag_key) ps payload k
SaysBody flags ps payload (DisposeUnregister k) =
    HasStatus ps true true × ShowsKey (has_flag flags flag_data) (has_flag flags flag_key) ps payload k

-- The strength is what its parameter says, none where there is no such parameter.
abbrev pub HasStrength : Endianness → List Parameter → Option ℤ → Type 0
HasStrength order ps None = parameter_value pid_ownership_strength ps ≡ None
HasStrength order ps (Some z) =
    FitsSigned w32 z × (parameter_value pid_ownership_strength ps ≡ Some (count_text order z))

-- What is said: of the instance, and of the writer.
pub record SaysContent (flags : ℕ) (ps : List Parameter) (payload : List ℕ) (c : DataContent) : Type 0 where
  pub body : SaysBody flags ps payload c.body
  pub strength : HasStrength (order_of flags) ps c.strength

-- Octets may stand between the number and what follows: octetsToInlineQos, counted from its own end, says how many.
-- Parameters follow where flag Q is set, and then the payload.
pub record ReadsData (flags : ℕ) (body : List ℕ) (d : Data) : Type 0 where
  pub extra : ℕ
  pub skipped : List ℕ
  pub from_parameters : List ℕ
  pub parameters : List Parameter
  pub payload : List ℕ
  pub extra_small : extra < 2 ^ 16
  pub skipped_small : least_octets_to_inline_qos + length skipped < 2 ^ 16
  pub text : body ≡ data_head (order_of flags) extra
      (least_octets_to_inline_qos + length skipped) d.reader_id d.writer_id d.writer_sn
      ++ (skipped ++ from_parameters)
  pub inline : MatchBool (has_flag flags flag_inline_qos)
      (ReadsParameters (order_of flags) from_parameters parameters payload)
      ((parameters ≡ []) × (payload ≡ from_parameters))
  pub says : SaysContent flags parameters payload d.content

-- The number is from 1 to `max_sn`.
pub record IsData (d : Data) : Type 0 where
  pub reader : IsEntityId d.reader_id
  pub writer : IsEntityId d.writer_id
  pub first : 1 ≤ d.writer_sn
  pub small : d.writer_sn ≤ max_sn

-- the body of a change that has a written form
abbrev pub IsBody : ChangeBody → Type 0
IsBody (Write d) = IsDatum d
IsBody (Dispose k) = length k.0 ≡ len_key
IsBody (Unregister k) = length k.0 ≡ len_key
IsBody (DisposeUnregister k) = length k.0 ≡ len_key

-- A strength has 32 bits with a sign.
abbrev pub IsStrength : Option ℤ → Type 0
IsStrength strength = IfSome strength (λ z. FitsSigned w32 z)

-- what has a written form
pub record IsContent (c : DataContent) : Type 0 where
  pub body : IsBody c.body
  pub strength : IsStrength c.strength

-- ---- as written

-- E and D for a write, with Q where there is a strength; E, Q and K for the others
abbrev pub flags_with : ChangeBody → Option ℤ → ℕ
flags_with (Write d) None = flag_endianness + flag_data
flags_with (Write d) (Some z) = flag_endianness + flag_inline_qos + flag_data
flags_with body strength = flag_endianness + flag_inline_qos + flag_key

-- the flags of a content
abbrev pub content_flags : DataContent → ℕ
content_flags c = flags_with c.body c.strength

-- the parameter of a strength, where there is one
abbrev pub strength_text : Option ℤ → List ℕ
strength_text None = []
strength_text (Some z) = parameter_text Little (record { id = pid_ownership_strength; value = count_text Little z })

-- the end of parameters
abbrev pub sentinel_text : List ℕ
sentinel_text = parameter_text Little (record { id = pid_sentinel; value = [] })

-- a datum, after strength and sentinel where there is a strength
abbrev pub text_of_write : Datum → Option ℤ → List ℕ
text_of_write d None = spelling_of_datum d
text_of_write d (Some z) = strength_text (Some z) ++ (sentinel_text ++ spelling_of_datum d)

-- key hash, status info, strength if there is one, sentinel, key form
abbrev pub text_of_end : ℕ → Key → Option ℤ → List ℕ
text_of_end status k strength =
    parameter_text Little (record { id = pid_key_hash; value = k.0 })
    ++ parameter_text Little (record { id = pid_status_info; value = 0 ∷ 0 ∷ 0 ∷ status ∷ [] })
    ++ strength_text strength
    ++ sentinel_text
    ++ spelling_of_key k

-- what follows the head of a DATA, by what the change does and the strength
abbrev pub text_with : ChangeBody → Option ℤ → List ℕ
text_with (Write d) strength = text_of_write d strength
text_with (Dispose k) strength = text_of_end status_disposed k strength
text_with (Unregister k) strength = text_of_end status_unregistered k strength
text_with (DisposeUnregister k) strength = text_of_end (status_disposed + status_unregistered) k strength

-- what follows the head of a DATA
abbrev pub text_of_content : DataContent → List ℕ
text_of_content c = text_with c.body c.strength

-- the body as written
abbrev pub text_of_data : Data → List ℕ
text_of_data d = data_head Little extra_flags least_octets_to_inline_qos d.reader_id d.writer_id d.writer_sn
    ++ text_of_content d.content
