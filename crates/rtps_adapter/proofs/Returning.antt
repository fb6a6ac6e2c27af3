-- A payload that was turned comes back as it was.
use Rattle.std.proofs.Common.{◌≡◌, ◌≢◌, ℕ, zero, suc, ◌+◌, ◌-◌, ◌%◌, ◌^◌, ◌<◌, ◌≤◌, Bool, true, false, cond, eqb, ltb, List, [], ◌∷◌, ◌++◌, length, take, Option, Some, None, refl, sym, ap, subst, ◌∙◌, append_assoc, arith, ℤ}
use Rattle.std.specs.Int.{w16}
use Rattle.std.proofs.lemmas.Bool.{ne_eqb, le-ltb, eqb-true}
use Rattle.std.proofs.lemmas.List.{append-nil, length-append, length-replicate, take_all, take_at}
use Rattle.dds_base.specs.declared.datum.Datum.{Datum}
use Rattle.dds_base.specs.declared.endianness.Endianness.{Endianness}
use Rattle.dds_base.specs.declared.endianness.Endianness.TheVariants.{Big, Little}
use Rattle.dds_base.specs.declared.guid.EntityId.{EntityId}
use Rattle.dds_base.specs.declared.guid.GuidPrefix.{GuidPrefix}
use Rattle.dds_base.specs.declared.key.Key.{Key}
use Rattle.dds_base.specs.DatumText.{IsDatum, ReadsDatum, ReadsKey, spelling_of_datum, spelling_of_key}
use Rattle.dds_base.specs.Fields.{number, octets_at}
use Rattle.dds_base.proofs.DatumLaws.{datum_only, key_form_only}
use Rattle.dds_base.proofs.KeyLaws.{same_key-refl}
use Rattle.dds_base.proofs.FieldLaws.{some_is, field_u16, field_octets}
use Rattle.rtps_wire.specs.declared.data.ChangeBody.{ChangeBody}
use Rattle.rtps_wire.specs.declared.data.ChangeBody.TheVariants.{Write, Dispose, Unregister, DisposeUnregister}
use Rattle.rtps_wire.specs.Data.{data_head, IsBody, flags_with, strength_text, sentinel_text, text_with}
use Rattle.rtps_wire.specs.Fields.{has_flag, order_of, sn_text, count_text}
use Rattle.rtps_wire.specs.Parameters.{parameter_text}
use Rattle.rtps_wire.specs.ParametersAt.{parameter_at}
use Rattle.rtps_wire.specs.Submessages.{padding}
use Rattle.rtps_wire.proofs.WireFields.{field_entity_id}
use Rattle.rtps_announcements.specs.ListAt.{value_in, value_from}
use Rattle.rtps_announcements.specs.Names.{pid_endpoint_guid}
use Rattle.dds_base.specs.DatumAt.{key_at}
use Rattle.rtps_adapter.specs.declared.direction.Direction.{Direction}
use Rattle.rtps_adapter.specs.declared.direction.Direction.TheVariants.{Inward, Outward}
use Rattle.rtps_adapter.specs.declared.kinds.Encoding.{Encoding}
use Rattle.rtps_adapter.specs.declared.kinds.KeyRule.{KeyRule}
use Rattle.rtps_adapter.specs.declared.kinds.KeyRule.TheVariants.{Keyless, Fields, ParameterList}
use Rattle.rtps_adapter.specs.declared.kinds.WriterKind.{WriterKind}
use Rattle.rtps_adapter.specs.Kinds.{kind_of, rule_of}
use Rattle.rtps_adapter.specs.Keys.{key_by, key_alone, key_by_list, representation_of}
use Rattle.rtps_adapter.proofs.KeyForms.{own_few, fields_again, key_form_is, alone_says}
use Rattle.rtps_adapter.specs.Opened.{after_first, after_parameters, after_inline, payload_at}
use Rattle.rtps_adapter.specs.Payloads.{value_at, payload_of, list_of_key, key_payload_of, has_own_key, inward_payload, outward_payload}
use Rattle.rtps_adapter.specs.Turning.{Piece, piece_of, has_payload, foreign_payload, turned_payload, aligned, changed, turned}
use Rattle.rtps_adapter.specs.ComesBack.{IsKey, IsValue, GetsNoLonger}

-- ---- parameters

-- so many parameters are gone over
abbrev Skips : List ℕ → List ℕ → ℕ → Type 0
Skips bytes rest n = (count : ℕ) → n ≤ count → after_first count Little bytes ≡ Some rest

parameter_skipped : (id : ℕ) (value after : List ℕ) → id < 2 ^ 16 → id ≢ 1 → length value < 2 ^ 16
    → parameter_at Little (parameter_text Little (record { id = id; value = value }) ++ after) ≡ Some (id, value, after)
unfolding parameter_at
parameter_skipped id value after small other short =
    let no : eqb id 1 ≡ false = ne_eqb id 1 other in
    ap (parameter_at Little) (regroup (number Little w16 id) (number Little w16 (length value)) value after)
    ∙ rw (
      (field_u16 Little).again id (number Little w16 (length value) ++ (value ++ after)) small,
      (field_u16 Little).again (length value) (value ++ after) short,
      no,
      (field_octets (length value)).again value after refl,
    ) refl
  where
    regroup : (a b c d : List ℕ) → (a ++ b ++ c) ++ d ≡ a ++ (b ++ (c ++ d))
    regroup a b c d = simp append_assoc

sentinel_found : (rest : List ℕ) → parameter_at Little (sentinel_text ++ rest) ≡ Some (1, [], rest)
unfolding parameter_at
sentinel_found rest =
    rw (
      (field_u16 Little).again 1 (number Little w16 0 ++ rest) (omega arith),
      (field_u16 Little).again 0 rest (omega arith),
      (field_octets 0).again [] rest refl,
    ) refl

skips_last : (rest : List ℕ) → Skips (sentinel_text ++ rest) rest 1
unfolding after_first
skips_last rest zero le = absurd (omega arith)
skips_last rest (suc count) le = rw (sentinel_found rest) refl

skips_one : (id : ℕ) (value after rest : List ℕ) (n : ℕ) → id < 2 ^ 16 → id ≢ 1 → length value < 2 ^ 16
    → Skips after rest n → Skips (parameter_text Little (record { id = id; value = value }) ++ after) rest (n + 1)
unfolding after_first
skips_one id value after rest n small other short on zero le = absurd (omega arith)
skips_one id value after rest n small other short on (suc count) le =
    let no : eqb id 1 ≡ false = ne_eqb id 1 other in
    rw (parameter_skipped id value after small other short, no) (on count (omega arith))

skips_strength : (strength : Option ℤ) (rest : List ℕ) → Skips (strength_text strength ++ (sentinel_text ++ rest)) rest 2
skips_strength None rest count le = skips_last rest count (omega arith)
skips_strength (Some z) rest count le =
    skips_one 6 (count_text Little z) (sentinel_text ++ rest) rest 1 (omega arith) (λ e. omega (arith, e)) (omega arith)
    (skips_last rest) count le

skips_all : (bytes rest : List ℕ) (n : ℕ) → Skips bytes rest n → n ≤ suc (length bytes)
    → after_parameters Little bytes ≡ Some rest
unfolding after_parameters
skips_all bytes rest n on le = on (suc (length bytes)) le

-- ---- a DATA as it is written, up to its payload

-- the parameters of a change that is no write
abbrev end_parameters : ℕ → Key → Option ℤ → List ℕ
end_parameters status k strength =
    parameter_text Little (record { id = 112; value = k.0 })
    ++ parameter_text Little (record { id = 113; value = 0 ∷ 0 ∷ 0 ∷ status ∷ [] })
    ++ strength_text strength
    ++ sentinel_text

-- the parameters, as they are written
abbrev pub written_parameters : ChangeBody → Option ℤ → List ℕ
written_parameters (Write d) None = []
written_parameters (Write d) (Some z) = strength_text (Some z) ++ sentinel_text
written_parameters (Dispose k) strength = end_parameters 1 k strength
written_parameters (Unregister k) strength = end_parameters 2 k strength
written_parameters (DisposeUnregister k) strength = end_parameters 3 k strength

-- the payload, as it is written
abbrev pub written_payload : ChangeBody → List ℕ
written_payload (Write d) = spelling_of_datum d
written_payload (Dispose k) = spelling_of_key k
written_payload (Unregister k) = spelling_of_key k
written_payload (DisposeUnregister k) = spelling_of_key k

pub written_whole : (b : ChangeBody) (strength : Option ℤ)
    → text_with b strength ≡ written_parameters b strength ++ written_payload b
written_whole (Write d) None = refl
written_whole (Write d) (Some z) = sym (append_assoc (strength_text (Some z)) sentinel_text (spelling_of_datum d))
written_whole (Dispose k) strength = refl
written_whole (Unregister k) strength = refl
written_whole (DisposeUnregister k) strength = refl

-- whether the payload says a key alone
abbrev pub says_key : ChangeBody → Bool
says_key (Write d) = false
says_key _ = true

end_skipped : (status : ℕ) (k : Key) (strength : Option ℤ) (rest : List ℕ) → length k.0 ≡ 16
    → after_parameters Little (end_parameters status k strength ++ rest) ≡ Some rest
end_skipped status k strength rest len =
    let hash : List ℕ = parameter_text Little (record { id = 112; value = k.0 }) in
    let info : List ℕ = parameter_text Little (record { id = 113; value = 0 ∷ 0 ∷ 0 ∷ status ∷ [] }) in
    let last : List ℕ = strength_text strength ++ (sentinel_text ++ rest) in
    ap (after_parameters Little) (regroup hash info (strength_text strength) sentinel_text rest)
    ∙ skips_all (parameter_text Little (record { id = 112; value = k.0 })
    ++ (parameter_text Little (record { id = 113; value = 0 ∷ 0 ∷ 0 ∷ status ∷ [] })
    ++ (strength_text strength ++ (sentinel_text ++ rest)))) rest 4
    (skips_one 112 k.0 (info ++ last) rest 3 (omega arith) (λ e. omega (arith, e)) (omega (arith, len))
    (skips_one 113 (0 ∷ 0 ∷ 0 ∷ status ∷ []) last rest 2 (omega arith) (λ e. omega (arith, e)) (omega arith)
    (skips_strength strength rest)))
    (omega (arith, length-append hash (info ++ last)))
  where
    regroup : (a b c d e : List ℕ) → (a ++ b ++ c ++ d) ++ e ≡ a ++ (b ++ (c ++ (d ++ e)))
    regroup a b c d e = simp append_assoc

pub inline_skipped : (b : ChangeBody) (strength : Option ℤ) (rest : List ℕ) → IsBody b
    → after_inline (flags_with b strength) (written_parameters b strength ++ rest) ≡ Some rest
unfolding after_inline
inline_skipped (Write d) None rest valid = refl
inline_skipped (Write d) (Some z) rest valid =
    ap (after_parameters Little) (append_assoc (strength_text (Some z)) sentinel_text rest)
    ∙ skips_all (strength_text (Some z) ++ (sentinel_text ++ rest)) rest 2 (skips_strength (Some z) rest)
    (omega (arith, length-append (strength_text (Some z)) (sentinel_text ++ rest)))
inline_skipped (Dispose k) strength rest valid = end_skipped 1 k strength rest valid
inline_skipped (Unregister k) strength rest valid = end_skipped 2 k strength rest valid
inline_skipped (DisposeUnregister k) strength rest valid = end_skipped 3 k strength rest valid

standard : (b : ChangeBody) (strength : Option ℤ) → has_flag (flags_with b strength) 16 ≡ false
standard (Write d) None = refl
standard (Write d) (Some z) = refl
standard (Dispose k) strength = refl
standard (Unregister k) strength = refl
standard (DisposeUnregister k) strength = refl

pub is_little : (b : ChangeBody) (strength : Option ℤ) → order_of (flags_with b strength) ≡ Little
is_little (Write d) None = refl
is_little (Write d) (Some z) = refl
is_little (Dispose k) strength = refl
is_little (Unregister k) strength = refl
is_little (DisposeUnregister k) strength = refl

pub carries_payload : (b : ChangeBody) (strength : Option ℤ) → has_payload (flags_with b strength) ≡ true
carries_payload (Write d) None = refl
carries_payload (Write d) (Some z) = refl
carries_payload (Dispose k) strength = refl
carries_payload (Unregister k) strength = refl
carries_payload (DisposeUnregister k) strength = refl

pub key_flag : (b : ChangeBody) (strength : Option ℤ) → has_flag (flags_with b strength) 8 ≡ says_key b
key_flag (Write d) None = refl
key_flag (Write d) (Some z) = refl
key_flag (Dispose k) strength = refl
key_flag (Unregister k) strength = refl
key_flag (DisposeUnregister k) strength = refl

pub sn_length : (order : Endianness) (sn : ℕ) → length (sn_text order sn) ≡ 8
sn_length Big sn = refl
sn_length Little sn = refl

head_opens : (flags : ℕ) (r w : EntityId) (sn : ℕ) (rest q : List ℕ) → has_flag flags 16 ≡ false → length r.0 ≡ 4
    → length w.0 ≡ 4 → after_inline flags rest ≡ Some q
    → payload_at flags (data_head (order_of flags) 0 16 r w sn ++ rest) ≡ Some (w, q)
unfolding payload_at
head_opens flags r w sn rest q no_flag reader writer inline =
    let order = order_of flags in
    let text = sn_text (order_of flags) sn in
    let way : ltb 16 16 ≡ false = refl in
    let long : length (r.0 ++ (w.0 ++ sn_text (order_of flags) sn)) ≡ 16 =
    omega (arith, length-append r.0 (w.0 ++ text), length-append w.0 text, sn_length order sn, reader, writer) in
    let named : octets_at 16 (r.0 ++ (w.0 ++ (sn_text (order_of flags) sn ++ rest)))
    ≡ Some (r.0 ++ (w.0 ++ sn_text (order_of flags) sn), rest) =
    ap (octets_at 16) (together r.0 w.0 text rest)
    ∙ (field_octets 16).again (r.0 ++ (w.0 ++ sn_text (order_of flags) sn)) rest long in
    ap (payload_at flags) (regroup (number order w16 0) (number order w16 16) r.0 w.0 (sn_text (order_of flags) sn) rest)
    ∙ rw (
      no_flag,
      (field_u16 (order_of flags)).again 0
          (number order w16 16 ++ (r.0 ++ (w.0 ++ (sn_text (order_of flags) sn ++ rest)))) (omega arith),
      (field_u16 (order_of flags)).again 16 (r.0 ++ (w.0 ++ (sn_text (order_of flags) sn ++ rest))) (omega arith),
      field_entity_id.again r (w.0 ++ (sn_text (order_of flags) sn ++ rest)) reader,
      field_entity_id.again w (sn_text (order_of flags) sn ++ rest) writer,
      named,
      inline,
    ) refl
  where
    regroup : (a b c d e f : List ℕ) → (a ++ b ++ c ++ d ++ e) ++ f ≡ a ++ (b ++ (c ++ (d ++ (e ++ f))))
    regroup a b c d e f = simp append_assoc

    together : (a b c d : List ℕ) → a ++ (b ++ (c ++ d)) ≡ (a ++ (b ++ c)) ++ d
    together a b c d = simp append_assoc

-- what stands before the payload of a DATA, as it is written
abbrev pub head_of_data : EntityId → EntityId → ℕ → ChangeBody → Option ℤ → List ℕ
head_of_data r w sn b strength = data_head Little 0 16 r w sn ++ written_parameters b strength

pub data_opens : (r w : EntityId) (sn : ℕ) (b : ChangeBody) (strength : Option ℤ) (q : List ℕ) → length r.0 ≡ 4
    → length w.0 ≡ 4 → IsBody b
    → payload_at (flags_with b strength) (head_of_data r w sn b strength ++ q) ≡ Some (w, q)
data_opens r w sn b strength q reader writer valid =
    let opens =
    head_opens (flags_with b strength) r w sn (written_parameters b strength ++ q) q (standard b strength) reader writer
    (inline_skipped b strength q valid) in
    ap (payload_at (flags_with b strength)) (append_assoc (data_head Little 0 16 r w sn) (written_parameters b strength) q)
    ∙ subst (λ (order : Endianness). payload_at (flags_with b strength) (data_head order 0 16 r w sn
    ++ (written_parameters b strength ++ q)) ≡ Some (w, q)) (is_little b strength) opens

-- ---- a payload that has to be turned

front_taken : (front q : List ℕ) → take (length (front ++ q) - length q) (front ++ q) ≡ front
front_taken front q =
    let many : length (front ++ q) - length q ≡ length front = omega (arith, length-append front q) in
    rw many (take_at front q (length front) refl)

pub foreign_is : (kinds : List WriterKind) (source : GuidPrefix) (flags : ℕ) (w : EntityId) (front q : List ℕ) (rule : KeyRule)
    → has_payload flags ≡ true → payload_at flags (front ++ q) ≡ Some (w, q)
    → rule_of (kind_of kinds source w) ≡ Some rule
    → foreign_payload kinds source 21 flags (front ++ q)
    ≡ Some (record { rule = rule; is_key = has_flag flags 8; front = front; octets = q })
unfolding foreign_payload
foreign_is kinds source flags w front q rule has opens is =
    rw (has, opens, is, front_taken front q) refl

-- no zeros follow what is aligned
aligned_same : (octets : List ℕ) → length octets % 4 ≡ 0 → aligned octets ≡ octets
aligned_same octets whole = rw whole (append-nil octets)

pub changed_is : (direction : Direction) (kinds : List WriterKind) (source : GuidPrefix) (flags : ℕ) (w : EntityId)
    (front q new : List ℕ) (rule : KeyRule) → has_payload flags ≡ true → payload_at flags (front ++ q) ≡ Some (w, q)
    → rule_of (kind_of kinds source w) ≡ Some rule
    → turned_payload direction (record { rule = rule; is_key = has_flag flags 8; front = front; octets = q }) ≡ Some new
    → changed direction kinds source 21 flags (front ++ q) ≡ Some (flags, aligned (front ++ new))
unfolding changed
changed_is direction kinds source flags w front q new rule has opens is turns =
    rw (foreign_is kinds source flags w front q rule has opens is, turns) refl

-- a DATA of the datum
pub foreign_not : (kinds : List WriterKind) (source : GuidPrefix) (flags : ℕ) (w : EntityId) (body q : List ℕ)
    → has_payload flags ≡ true → payload_at flags body ≡ Some (w, q) → rule_of (kind_of kinds source w) ≡ None
    → foreign_payload kinds source 21 flags body ≡ None
unfolding foreign_payload
foreign_not kinds source flags w body q has opens is = rw (has, opens, is) refl

-- a payload that is turned both ways is as it was
pub record Returns (kinds : List WriterKind) (source : GuidPrefix) (p out : Piece) : Type 0 where
  pub out_is : turned Outward kinds source p ≡ out
  pub back_is : turned Inward kinds source out ≡ p

pub data_returns : (kinds : List WriterKind) (source : GuidPrefix) (flags : ℕ) (w : EntityId) (front old new : List ℕ)
    (rule : KeyRule) → has_payload flags ≡ true
    → ((q : List ℕ) → payload_at flags (front ++ q) ≡ Some (w, q))
    → rule_of (kind_of kinds source w) ≡ Some rule
    → length front % 4 ≡ 0 → length new % 4 ≡ 0
    → ((zeros : List ℕ) → outward_payload rule (has_flag flags 8) (old ++ zeros) ≡ Some new)
    → inward_payload rule (has_flag flags 8) new ≡ Some old
    → Returns kinds source (piece_of 21 flags (aligned (front ++ old))) (piece_of 21 flags (front ++ new))
unfolding turned_payload
data_returns kinds source flags w front old new rule has opens is whole new_whole there back =
    let zeros = padding (length (front ++ old)) in
    let parts : aligned (front ++ old) ≡ front ++ (old ++ padding (length (front ++ old))) =
    append_assoc front old zeros in
    let same : aligned (front ++ new) ≡ front ++ new =
    aligned_same (front ++ new) (omega (arith, length-append front new)) in
    let out : changed Outward kinds source 21 flags (aligned (front ++ old)) ≡ Some (flags, front ++ new) =
    ap (changed Outward kinds source 21 flags) parts
    ∙ changed_is Outward kinds source flags w front (old ++ zeros) new rule has (opens (old ++ zeros)) is (there zeros)
    ∙ ap (λ (z : List ℕ). Some (flags, z)) same in
    let in_again : changed Inward kinds source 21 flags (front ++ new) ≡ Some (flags, aligned (front ++ old)) =
    changed_is Inward kinds source flags w front new old rule has (opens new) is back in
    record { out_is = rw out refl; back_is = rw in_again refl }

-- ---- values

test_passed : {A : Type 0} (b : Bool) (x y : A) → cond b (Some x) None ≡ Some y → (b ≡ true) × (x ≡ y)
test_passed true x y e = (refl, some_is x y e)
test_passed false x y e = absurd cc

-- the value of the payload of a value, whose length is a multiple of 4
pub payload_back : (v p : List ℕ) → payload_of v ≡ Some p → (value_at p ≡ Some v) × (length p % 4 ≡ 0)
unfolding payload_of value_at
payload_back [] p e = absurd cc
payload_back (a ∷ []) p e = absurd cc
payload_back (a ∷ b ∷ []) p e = absurd cc
payload_back (a ∷ b ∷ c ∷ []) p e = absurd cc
payload_back (a ∷ b ∷ c ∷ d ∷ body) p e =
    let made : List ℕ = a ∷ b ∷ c ∷ (d + length (padding (length body))) ∷ (body ++ padding (length body)) in
    let passed = test_passed (eqb (d % 4) 0) made p e in
    let clear : d % 4 ≡ 0 = eqb-true (d % 4) 0 passed.0 in
    let many : length (padding (length body)) ≡ (4 - length body % 4) % 4 = length-replicate ((4 - length body % 4) % 4) 0 in
    let few : length (padding (length body)) < 4 = omega (arith, many) in
    let low : (d + length (padding (length body))) % 4 ≡ length (padding (length body)) = omega (arith, clear, few) in
    let long : ltb (length (body ++ padding (length body))) (length (padding (length body))) ≡ false =
    le-ltb (length (body ++ padding (length body))) (length (padding (length body)))
    (omega (arith, length-append body (padding (length body)))) in
    let kept : d + length (padding (length body)) - length (padding (length body)) ≡ d = omega arith in
    let back : value_at made ≡ Some (a ∷ b ∷ c ∷ d ∷ body) =
    rw (low, long, kept, front_taken body (padding (length body))) refl in
    let whole : length made % 4 ≡ 0 = omega (arith, many, length-append body (padding (length body))) in (
      subst (λ (z : List ℕ). value_at z ≡ Some (a ∷ b ∷ c ∷ d ∷ body)) passed.1 back,
      subst (λ (z : List ℕ). length z % 4 ≡ 0) passed.1 whole,
    )

own_key : (rule : KeyRule) (d : Datum) → key_by rule d.value ≡ Some d.key → has_own_key rule d ≡ true
own_key rule d e = rw e (same_key-refl d.key)

pub write_there : (rule : KeyRule) (d : Datum) (new zeros : List ℕ) → IsDatum d → key_by rule d.value ≡ Some d.key
    → payload_of d.value ≡ Some new → outward_payload rule false (spelling_of_datum d ++ zeros) ≡ Some new
unfolding outward_payload
write_there rule d new zeros valid key value =
    let reads : ReadsDatum (spelling_of_datum d ++ zeros) d =
    record { order = Little; options = 0 ∷ 0 ∷ []; rest = zeros; two = refl; text = refl; valid = valid } in
    rw (datum_only (spelling_of_datum d ++ zeros) d reads, own_key rule d key) value

pub write_back : (rule : KeyRule) (d : Datum) (new : List ℕ) → key_by rule d.value ≡ Some d.key → value_at new ≡ Some d.value
    → inward_payload rule false new ≡ Some (spelling_of_datum d)
unfolding inward_payload
write_back rule d new key value = rw (value, key) refl

-- ---- lengths

payload_length : (v p : List ℕ) → payload_of v ≡ Some p → length p ≡ length v + (4 - length v % 4) % 4
unfolding payload_of
payload_length [] p e = absurd cc
payload_length (a ∷ []) p e = absurd cc
payload_length (a ∷ b ∷ []) p e = absurd cc
payload_length (a ∷ b ∷ c ∷ []) p e = absurd cc
payload_length (a ∷ b ∷ c ∷ d ∷ body) p e =
    let made : List ℕ = a ∷ b ∷ c ∷ (d + length (padding (length body))) ∷ (body ++ padding (length body)) in
    let passed = test_passed (eqb (d % 4) 0) made p e in
    omega (
      arith,
      ap length passed.1,
      length-append body (padding (length body)),
      length-replicate {A = ℕ} ((4 - length body % 4) % 4) 0,
    )

-- a payload is not longer than the datum of its value
pub payload_less : (d : Datum) (p : List ℕ) → IsDatum d → payload_of d.value ≡ Some p
    → length p ≤ length (spelling_of_datum d)
payload_less d p valid e = simp length-append (omega (arith, valid.key, payload_length d.value p e))

-- ---- keys

-- a key that is turned both ways is as it was
pub record KeyReturns (rule : KeyRule) (k : Key) : Type 0 where
  pub new : List ℕ
  pub whole : length new % 4 ≡ 0
  pub less : GetsNoLonger rule (Dispose k) → length new ≤ length (spelling_of_key k)
  pub sent : key_payload_of rule k ≡ Some new
  pub back : inward_payload rule true new ≡ Some (spelling_of_key k)

pub key_back : (rule : KeyRule) (k : Key) (new value : List ℕ) → value_at new ≡ Some value → key_alone rule value ≡ Some k
    → inward_payload rule true new ≡ Some (spelling_of_key k)
unfolding inward_payload
key_back rule k new value opens is = rw (opens, is) refl

payload_made : (encoding : Encoding) (octets : List ℕ) → IsValue (0 ∷ representation_of encoding ∷ 0 ∷ 0 ∷ octets)
unfolding payload_of
payload_made encoding octets = (
  0 ∷ representation_of encoding ∷ 0 ∷ (0 + length (padding (length octets))) ∷ (octets ++ padding (length octets)),
  refl,
)

list_length : (k : Key) → length k.0 ≡ 16 → length (list_of_key k) ≡ 28
list_length k len = omega (arith, len, length-append k.0 sentinel_text)

-- a list of parameters counts no padding
list_value : (k : Key) → length k.0 ≡ 16 → value_at (list_of_key k) ≡ Some (list_of_key k)
unfolding value_at
list_value k len =
    let body : List ℕ = parameter_text Little (record { id = pid_endpoint_guid; value = k.0 }) ++ sentinel_text in
    rw (le-ltb (length body) 0 (omega arith))
    (ap (λ (z : List ℕ). Some (0 ∷ 3 ∷ 0 ∷ 0 ∷ z)) (take_all (length body - 0 % 4) body (omega arith)))

guid_first : (k : Key) → length k.0 ≡ 16 → value_in Little
    (parameter_text Little (record { id = pid_endpoint_guid; value = k.0 }) ++ sentinel_text) pid_endpoint_guid
    ≡ Some k.0
unfolding value_in value_from
guid_first k len = rw (parameter_skipped pid_endpoint_guid k.0 sentinel_text (omega arith) (λ e. absurd cc) (omega (arith, len))) refl

-- the list that names a key has it
list_again : (k : Key) → length k.0 ≡ 16 → key_by_list (list_of_key k) ≡ Some k
unfolding key_by_list key_at
list_again k len =
    let whole : octets_at 16 k.0 ≡ Some (k.0, []) =
    ap (octets_at 16) (sym (append-nil k.0)) ∙ (field_octets 16).again k.0 [] len in
    rw (guid_first k len, whole) refl

pub key_returns : (rule : KeyRule) (k : Key) → length k.0 ≡ 16 → IsKey rule k → KeyReturns rule k
unfolding key_payload_of value_at
key_returns Keyless k len is = record {
  new = 0 ∷ 1 ∷ 0 ∷ 0 ∷ [];
  whole = refl;
  less = λ short. omega (arith, len);
  sent = rw is refl;
  back = key_back Keyless k (0 ∷ 1 ∷ 0 ∷ 0 ∷ []) (0 ∷ 1 ∷ 0 ∷ 0 ∷ []) refl (ap Some (sym is));
}
key_returns (Fields encoding fields) k len is =
    let s = alone_says encoding fields.now k is in
    let few : length s.octets ≤ 16 = own_few encoding fields.now k s.octets len s.found in
    let value : List ℕ = 0 ∷ representation_of encoding ∷ 0 ∷ 0 ∷ s.octets in
    let made = payload_made encoding s.octets in
    let returns = payload_back value made.0 made.1 in
    record {
      new = made.0;
      whole = returns.1;
      less = λ short. omega (arith, len, few, payload_length value made.0 made.1);
      sent = rw s.own made.1;
      back = key_back (Fields encoding fields) k made.0 value returns.0
          (key_form_is encoding fields.now s.octets s.octets (fields_again fields.now encoding k.0 [] s.octets s.found)
          ∙ ap Some s.is);
    }
key_returns ParameterList k len is = record {
  new = list_of_key k;
  whole = omega (arith, list_length k len);
  less = λ short. absurd short;
  sent = refl;
  back = key_back ParameterList k (list_of_key k) (list_of_key k) (list_value k len) (list_again k len);
}

pub key_there : (rule : KeyRule) (k : Key) (new zeros : List ℕ) → length k.0 ≡ 16 → key_payload_of rule k ≡ Some new
    → outward_payload rule true (spelling_of_key k ++ zeros) ≡ Some new
unfolding outward_payload
key_there rule k new zeros len sent =
    let reads : ReadsKey (spelling_of_key k ++ zeros) k =
    record { order = Little; options = 0 ∷ 0 ∷ []; rest = zeros; two = refl; text = refl; valid = len } in
    rw (key_form_only (spelling_of_key k ++ zeros) k reads) sent
