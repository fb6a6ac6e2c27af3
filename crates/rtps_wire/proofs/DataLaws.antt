-- What is read of a DATA is what it says, and what it says is read.
use Rattle.std.proofs.Common.{◌≡◌, ℕ, ◌+◌, ◌-◌, ◌^◌, ◌<◌, ◌≤◌, Bool, true, false, cond, ltb, List, [], ◌++◌, length, Option, Some, None, refl, sym, ap, subst, ◌∙◌, arith, append_assoc, ℤ}
use Rattle.std.specs.Prelude.{MatchBool, slice_index, unwrap_or}
use Rattle.std.specs.Option.{option_map, option_or}
use Rattle.std.specs.Int.{w16}
use Rattle.std.proofs.lemmas.Bool.{ltb-false, le-ltb}
use Rattle.std.proofs.lemmas.Option.{option_and_then_some}
use Rattle.dds_base.specs.declared.endianness.Endianness.{Endianness}
use Rattle.dds_base.specs.declared.endianness.Endianness.TheVariants.{Little}
use Rattle.dds_base.specs.declared.guid.EntityId.{EntityId}
use Rattle.dds_base.specs.declared.key.Key.{Key}
use Rattle.dds_base.specs.Fields.{number, number_at, octets_at, ◌>>=◌}
use Rattle.dds_base.specs.FieldPairs.{both}
use Rattle.dds_base.specs.DatumText.{ReadsDatum}
use Rattle.dds_base.specs.DatumAt.{datum_at}
use Rattle.dds_base.proofs.FieldLaws.{AreOctets, guard_some, some_is, cond_is, field_u16, field_octets, field_both}
use Rattle.dds_base.proofs.DatumLaws.{datum_found, datum_only, datum_key_found, datum_key_only, key_form_found, key_form_only}
use Rattle.rtps_wire.specs.declared.data.ChangeBody.{ChangeBody}
use Rattle.rtps_wire.specs.declared.data.ChangeBody.TheVariants.{Write, Dispose, Unregister, DisposeUnregister}
use Rattle.rtps_wire.specs.declared.data.Data.{Data}
use Rattle.rtps_wire.specs.declared.parameters.Parameters.{Parameters}
use Rattle.rtps_wire.specs.Fields.{has_flag, order_of, sn_text}
use Rattle.rtps_wire.specs.FieldAt.{entity_id_at, sn_at}
use Rattle.rtps_wire.specs.Parameters.{Parameter, ReadsParameters, parameter_value, status_of}
use Rattle.rtps_wire.specs.Data.{data_head, ShowsKey, SaysBody, HasStrength, ReadsData, IsData}
use Rattle.rtps_wire.specs.DataAt.{data_head_at, shown_key_at, ended_at, body_by, body_at, inline_at, data_at}
use Rattle.rtps_wire.proofs.WireFields.{field_entity_id, field_sn}
use Rattle.rtps_wire.proofs.TestLaws.{match_true, match_false}
use Rattle.rtps_wire.proofs.ParameterLaws.{summed, nothing, IsStrengthOctets, parameters_found, parameters_only, seen_found, none_found, seen_only}

-- ---- the key

abbrev hash_in : List Parameter → Option Key
hash_in ps = (summed Little nothing ps).key_hash

hash_is : (o : Option (List ℕ)) (k : Key) → option_map (λ (v : List ℕ). record { 0 = v }) o ≡ Some k → o ≡ Some k.0
hash_is None k e = absurd cc
hash_is (Some v) k e = ap (λ (x : Key). Some x.0) (some_is _ k e)

hash_again : (o : Option (List ℕ)) (k : Key) → o ≡ Some k.0 → option_map (λ (v : List ℕ). record { 0 = v }) o ≡ Some k
hash_again o k e = ap (option_map (λ (v : List ℕ). record { 0 = v })) e

key_found : (datum key : Bool) (ps : List Parameter) (payload : List ℕ) (k : Key) → AreOctets payload
    → shown_key_at datum key (hash_in ps) payload ≡ Some k → ShowsKey datum key ps payload k
unfolding shown_key_at
key_found true true ps payload k octets e = absurd cc
key_found true false ps payload k octets e = datum_key_found payload k octets (sym e)
key_found false true ps payload k octets e = key_form_found payload k octets e
key_found false false ps payload k octets e = hash_is (parameter_value 112 ps) k e

key_only : (datum key : Bool) (ps : List Parameter) (payload : List ℕ) (k : Key) → ShowsKey datum key ps payload k
    → shown_key_at datum key (hash_in ps) payload ≡ Some k
unfolding shown_key_at
key_only true true ps payload k shows = absurd shows
key_only true false ps payload k shows = datum_key_only payload (record { key = k; value = shows.0 }) shows.1
key_only false true ps payload k shows = key_form_only payload k shows
key_only false false ps payload k shows = hash_again (parameter_value 112 ps) k shows

-- ---- what is said

-- `SaysBody`, by disposed, unregistered, D and K
abbrev Says : Bool → Bool → Bool → Bool → List Parameter → List ℕ → ChangeBody → Type 0
Says disposed unregistered datum key ps payload (Write d) =
    ((disposed ≡ false) × (unregistered ≡ false)) × (datum ≡ true) × (key ≡ false) × ReadsDatum payload d
Says disposed unregistered datum key ps payload (Dispose k) =
    ((disposed ≡ true) × (unregistered ≡ false)) × ShowsKey datum key ps payload k
Says disposed unregistered datum key ps payload (Unregister k) =
    ((disposed ≡ false) × (unregistered ≡ true)) × ShowsKey datum key ps payload k
Says disposed unregistered datum key ps payload (DisposeUnregister k) =
    ((disposed ≡ true) × (unregistered ≡ true)) × ShowsKey datum key ps payload k

pub mapped_some : {A B P : Type 0} (f : A → B) (o : Option A) (y : B) → option_map f o ≡ Some y
    → ((x : A) → o ≡ Some x → f x ≡ y → P) → P
mapped_some f None y e go = absurd cc
mapped_some f (Some x) y e go = go x refl (some_is (f x) y e)

says_found : (disposed unregistered datum key : Bool) (ps : List Parameter) (payload : List ℕ) (c : ChangeBody)
    → AreOctets payload
    → body_by disposed unregistered datum key (hash_in ps) payload ≡ Some c
    → Says disposed unregistered datum key ps payload c
unfolding body_by ended_at
says_found false false true false ps payload c octets e = mapped_some Write (datum_at payload) c e (λ d q r.
    subst (λ (x : ChangeBody). Says false false true false ps payload x) r
    ((refl, refl), refl, refl, datum_found payload d octets q))
says_found false false true true ps payload c octets e = absurd cc
says_found false false false key ps payload c octets e = absurd cc
says_found true true datum key ps payload c octets e =
    mapped_some DisposeUnregister (shown_key_at datum key (hash_in ps) payload) c e (λ k q r.
    subst (λ (x : ChangeBody). Says true true datum key ps payload x) r
    ((refl, refl), key_found datum key ps payload k octets q))
says_found true false datum key ps payload c octets e =
    mapped_some Dispose (shown_key_at datum key (hash_in ps) payload) c e (λ k q r.
    subst (λ (x : ChangeBody). Says true false datum key ps payload x) r
    ((refl, refl), key_found datum key ps payload k octets q))
says_found false true datum key ps payload c octets e =
    mapped_some Unregister (shown_key_at datum key (hash_in ps) payload) c e (λ k q r.
    subst (λ (x : ChangeBody). Says false true datum key ps payload x) r
    ((refl, refl), key_found datum key ps payload k octets q))

says_only : (disposed unregistered datum key : Bool) (ps : List Parameter) (payload : List ℕ) (c : ChangeBody)
    → Says disposed unregistered datum key ps payload c
    → body_by disposed unregistered datum key (hash_in ps) payload ≡ Some c
unfolding body_by ended_at
says_only disposed unregistered datum key ps payload (Write d) says =
    rw (says.0.0, says.0.1, says.1, says.2, datum_only payload d says.3) refl
says_only disposed unregistered datum key ps payload (Dispose k) says =
    rw (says.0.0, says.0.1, key_only datum key ps payload k says.1) refl
says_only disposed unregistered datum key ps payload (Unregister k) says =
    rw (says.0.0, says.0.1, key_only datum key ps payload k says.1) refl
says_only disposed unregistered datum key ps payload (DisposeUnregister k) says =
    rw (says.0.0, says.0.1, key_only datum key ps payload k says.1) refl

-- the status that is found is that of the status info
status_is : (o : Option (List ℕ)) → unwrap_or (option_or None (option_map (λ (v : List ℕ). slice_index v 3) o)) 0
    ≡ slice_index (unwrap_or o []) 3
status_is None = refl
status_is (Some v) = refl

body_found : (flags : ℕ) (order : Endianness) (ps : List Parameter) (payload : List ℕ) (c : ChangeBody) → AreOctets payload
    → body_at flags (summed order nothing ps) payload ≡ Some c → SaysBody flags ps payload c
unfolding body_at
body_found flags order ps payload c octets e =
    let said : Says (has_flag (status_of ps) 1) (has_flag (status_of ps) 2) (has_flag flags 4)
    (has_flag flags 8) ps payload c =
    says_found (has_flag (status_of ps) 1) (has_flag (status_of ps) 2) (has_flag flags 4)
    (has_flag flags 8) ps payload c octets (rw (status_is (parameter_value 113 ps)) at e) in
    as_said c said
  where
    as_said : (x : ChangeBody) → Says (has_flag (status_of ps) 1) (has_flag (status_of ps) 2) (has_flag flags 4)
        (has_flag flags 8) ps payload x → SaysBody flags ps payload x
    as_said (Write d) s = s
    as_said (Dispose k) s = s
    as_said (Unregister k) s = s
    as_said (DisposeUnregister k) s = s

body_only : (flags : ℕ) (order : Endianness) (ps : List Parameter) (payload : List ℕ) (c : ChangeBody) → SaysBody flags ps payload c
    → body_at flags (summed order nothing ps) payload ≡ Some c
unfolding body_at
body_only flags order ps payload c says =
    rw (status_is (parameter_value 113 ps))
    (says_only (has_flag (status_of ps) 1) (has_flag (status_of ps) 2) (has_flag flags 4)
    (has_flag flags 8) ps payload c (as_said c says))
  where
    as_said : (x : ChangeBody) → SaysBody flags ps payload x
        → Says (has_flag (status_of ps) 1) (has_flag (status_of ps) 2) (has_flag flags 4)
        (has_flag flags 8) ps payload x
    as_said (Write d) s = s
    as_said (Dispose k) s = s
    as_said (Unregister k) s = s
    as_said (DisposeUnregister k) s = s

strength_found : (order : Endianness) (ps : List Parameter) (strength : Option ℤ) → IsStrengthOctets ps
    → (summed order nothing ps).strength ≡ strength → HasStrength order ps strength
strength_found order ps None octets e = none_found order (parameter_value 6 ps) e
strength_found order ps (Some z) octets e = seen_found order (parameter_value 6 ps) z octets e

strength_only : (order : Endianness) (ps : List Parameter) (strength : Option ℤ) → HasStrength order ps strength
    → (summed order nothing ps).strength ≡ strength
strength_only order ps None has = rw has refl
strength_only order ps (Some z) has = seen_only order (parameter_value 6 ps) z has.0 has.1

-- ---- the parameters, where there are any

abbrev IsInline : Bool → Endianness → List ℕ → List Parameter → List ℕ → Type 0
IsInline b order bytes ps payload = MatchBool b (ReadsParameters order bytes ps payload) ((ps ≡ []) × (payload ≡ bytes))

record FindsInline (flags : ℕ) (bytes : List ℕ) (x : Parameters × List ℕ) : Type 0 where
  parameters : List Parameter
  inline : IsInline (has_flag flags 2) (order_of flags) bytes parameters x.1
  sum : x.0 ≡ summed (order_of flags) nothing parameters
  strength : IsStrengthOctets parameters
  octets : AreOctets x.1

inline_found : (flags : ℕ) (bytes : List ℕ) (x : Parameters × List ℕ) → AreOctets bytes → inline_at flags bytes ≡ Some x
    → FindsInline flags bytes x
unfolding inline_at
inline_found flags bytes x octets e =
    let order = order_of flags in
    let whole : Parameters × List ℕ = (nothing, bytes) in
    cond_is {P = FindsInline flags bytes x} (has_flag flags 2) _ (Some whole) (Some x) e
    (λ set p.
    let f = parameters_found order bytes x octets p in
    record {
      parameters = f.parameters;
      inline = match_true (has_flag flags 2)
          (ReadsParameters (order_of flags) bytes f.parameters x.1)
          ((f.parameters ≡ []) × (x.1 ≡ bytes)) set f.reads;
      sum = f.sum;
      strength = f.strength;
      octets = f.octets;
    })
    (λ clear p. subst (λ (y : Parameters × List ℕ). FindsInline flags bytes y) (some_is whole x p) (record {
      parameters = [];
      inline =
          match_false (has_flag flags 2) (ReadsParameters (order_of flags) bytes [] bytes)
          (([] ≡ []) × (bytes ≡ bytes)) clear (refl, refl);
      sum = refl;
      strength = λ v none. absurd cc;
      octets = octets;
    }))

inline_by : (b : Bool) (order : Endianness) (bytes : List ℕ) (ps : List Parameter) (payload : List ℕ)
    (read : Option (Parameters × List ℕ))
    → (ReadsParameters order bytes ps payload → read ≡ Some (summed order nothing ps, payload))
    → IsInline b order bytes ps payload
    → cond b read (Some (nothing, bytes)) ≡ Some (summed order nothing ps, payload)
inline_by true order bytes ps payload read again i = again i
inline_by false order bytes ps payload read again i = rw (i.0, i.1) refl

inline_only : (flags : ℕ) (bytes : List ℕ) (ps : List Parameter) (payload : List ℕ)
    → IsInline (has_flag flags 2) (order_of flags) bytes ps payload
    → inline_at flags bytes ≡ Some (summed (order_of flags) nothing ps, payload)
unfolding inline_at
inline_only flags bytes ps payload i =
    inline_by (has_flag flags 2) (order_of flags) bytes ps payload _
    (parameters_only (order_of flags) bytes ps payload) i

-- ---- the head

pub record HasHead (order : Endianness) (body : List ℕ) (x : ℕ × EntityId × EntityId × ℕ × List ℕ) : Type 0 where
  pub extra : ℕ
  pub extra_small : extra < 2 ^ 16
  pub way_small : x.0 < 2 ^ 16
  pub reader : length x.1.0 ≡ 4
  pub writer : length x.2.0 ≡ 4
  pub small : x.3 ≤ 2 ^ 62
  pub text : body ≡ data_head order extra x.0 x.1 x.2 x.3 ++ x.4
  pub octets : AreOctets x.4

abbrev head_fields : Endianness → List ℕ → Option ((((ℕ × ℕ) × (EntityId × EntityId)) × ℕ) × List ℕ)
head_fields order =
    both (both (both (number_at order w16) (number_at order w16)) (both entity_id_at entity_id_at)) (sn_at order)

abbrev head_text : Endianness → (((ℕ × ℕ) × (EntityId × EntityId)) × ℕ) → List ℕ
head_text order z =
    ((number order w16 z.0.0.0 ++ number order w16 z.0.0.1) ++ (z.0.1.0.0 ++ z.0.1.1.0)) ++ sn_text order z.1

-- the same octets, grouped by fields and in one row
head_row : (order : Endianness) (extra way : ℕ) (reader writer : EntityId) (n : ℕ) (rest : List ℕ)
    → data_head order extra way reader writer n ++ rest ≡ head_text order (((extra, way), (reader, writer)), n) ++ rest
head_row order extra way reader writer n rest =
    ap (λ (z : List ℕ). z ++ sn_text order n ++ rest)
    (append_assoc (number order w16 extra ++ number order w16 way) reader.0 writer.0)

pub head_found : (order : Endianness) (body : List ℕ) (x : ℕ × EntityId × EntityId × ℕ × List ℕ)
    → AreOctets body → data_head_at order body ≡ Some x → HasHead order body x
unfolding data_head_at
head_found order body x octets e =
    option_and_then_some (λ y. Some (y.0.0.0.1, y.0.0.1.0, y.0.0.1.1, y.0.1, y.1)) (head_fields order body) x e
    (λ y q r.
    let ids = field_both field_entity_id field_entity_id in
    let t =
    (field_both (field_both (field_both (field_u16 order) (field_u16 order)) ids) (field_sn order)).takes body y.0
    y.1 octets q in
    let made : ℕ × EntityId × EntityId × ℕ × List ℕ = (y.0.0.0.1, y.0.0.1.0, y.0.0.1.1, y.0.1, y.1) in
    subst (λ (z : ℕ × EntityId × EntityId × ℕ × List ℕ). HasHead order body z) (some_is made x r) (record {
      extra = y.0.0.0.0;
      extra_small = t.1.0.0.0;
      way_small = t.1.0.0.1;
      reader = t.1.0.1.0;
      writer = t.1.0.1.1;
      small = t.1.1;
      text = t.0.parts ∙ sym (head_row order y.0.0.0.0 y.0.0.0.1 y.0.0.1.0 y.0.0.1.1 y.0.1 y.1);
      octets = t.0.octets;
    }))

pub head_only : (order : Endianness) (extra way : ℕ) (reader writer : EntityId) (n : ℕ) (rest : List ℕ)
    → extra < 2 ^ 16 → way < 2 ^ 16 → length reader.0 ≡ 4 → length writer.0 ≡ 4 → n ≤ 2 ^ 62
    → data_head_at order (data_head order extra way reader writer n ++ rest) ≡ Some (way, reader, writer, n, rest)
unfolding data_head_at
head_only order extra way reader writer n rest p q r s t =
    ap (data_head_at order) (head_row order extra way reader writer n rest)
    ∙ rw ((field_both (field_both (field_both (field_u16 order) (field_u16 order))
    (field_both field_entity_id field_entity_id)) (field_sn order)).again
    (((extra, way), (reader, writer)), n) rest (((p, q), (r, s)), t)) refl

-- ---- the whole

pub record FindsData (flags : ℕ) (body : List ℕ) (d : Data) : Type 0 where
  pub standard : has_flag flags 16 ≡ false
  pub reads : ReadsData flags body d
  pub valid : IsData d

abbrev read_as : ℕ × EntityId × EntityId × ℕ × List ℕ → ChangeBody → Option ℤ → Data
read_as x b strength = record {
  reader_id = x.1;
  writer_id = x.2;
  writer_sn = x.3;
  content = record { body = b; strength = strength };
}

pub data_found : (flags : ℕ) (body : List ℕ) (d : Data) → AreOctets body → data_at flags body ≡ Some d
    → FindsData flags body d
unfolding data_at
data_found flags body d octets e =
    let order = order_of flags in
    let after : ℕ × EntityId × EntityId × ℕ × List ℕ → Option Data =
    λ x. cond (ltb x.0 16) None (octets_at (x.0 - 16) x.4) >>= λ s. inline_at flags s.1 >>= λ p. body_at flags
    p.0 p.1 >>= λ b. cond (ltb x.3 1) None
    (Some (read_as x b p.0.strength)) in
    let g = guard_some (has_flag flags 16) (data_head_at (order_of flags) body >>= after) d e in
    option_and_then_some after (data_head_at (order_of flags) body) d g.1 (λ x q r.
    let head = head_found order body x octets q in
    option_and_then_some (λ s. inline_at flags s.1 >>= λ p. body_at flags p.0 p.1 >>= λ b. cond (ltb x.3 1) None
    (Some (read_as x b p.0.strength)))
    (cond (ltb x.0 16) None (octets_at (x.0 - 16) x.4)) d r (λ s q2 r2.
    let long = guard_some (ltb x.0 16) (octets_at (x.0 - 16) x.4) s q2 in
    let way : 16 ≤ x.0 = ltb-false _ _ long.0 in
    let skipped = (field_octets (x.0 - 16)).takes x.4 s.0 s.1 head.octets long.1 in
    option_and_then_some (λ p. body_at flags p.0 p.1 >>= λ b. cond (ltb x.3 1) None
    (Some (read_as x b p.0.strength))) (inline_at flags s.1) d r2
    (λ p q3 r3.
    let inline = inline_found flags s.1 p skipped.0.octets q3 in
    option_and_then_some
    (λ b. cond (ltb x.3 1) None (Some (read_as x b p.0.strength)))
    (body_at flags p.0 p.1) d r3 (λ b q4 r4.
    let made : Data = read_as x b p.0.strength in
    let first = guard_some (ltb x.3 1) (Some made) d r4 in
    let way-is : x.0 ≡ 16 + length s.0 = omega (arith, skipped.1) in
    let same : body_at flags (summed (order_of flags) nothing inline.parameters) p.1 ≡ Some b =
    rw (← inline.sum) q4 in
    subst (λ (y : Data). FindsData flags body y) (some_is made d first.1) (record {
      standard = g.0;
      reads = record {
        extra = head.extra;
        skipped = s.0;
        from_parameters = s.1;
        parameters = inline.parameters;
        payload = p.1;
        extra_small = head.extra_small;
        skipped_small = rw (← way-is) head.way_small;
        text =
            head.text ∙ ap (λ (w : ℕ). data_head order head.extra w x.1 x.2 x.3 ++ x.4) way-is
            ∙ ap (λ (z : List ℕ). data_head order head.extra (16 + length s.0) x.1 x.2 x.3 ++ z) skipped.0.parts;
        inline = inline.inline;
        says = record {
          body = body_found flags (order_of flags) inline.parameters p.1 b inline.octets same;
          strength =
              strength_found (order_of flags) inline.parameters p.0.strength inline.strength
              (ap (λ (y : Parameters). y.strength) (sym inline.sum));
        };
      };
      valid = record { reader = head.reader; writer = head.writer; first = ltb-false _ _ first.0; small = head.small };
    })))))

abbrev with_strength : Data → Option ℤ → Data
with_strength d strength = record {
  reader_id = d.reader_id;
  writer_id = d.writer_id;
  writer_sn = d.writer_sn;
  content = record { body = d.content.body; strength = strength };
}

pub data_only : (flags : ℕ) (d : Data) (body : List ℕ) → has_flag flags 16 ≡ false → ReadsData flags body d → IsData d
    → data_at flags body ≡ Some d
unfolding data_at
data_only flags d body standard x valid =
    let order = order_of flags in
    let way : ltb (16 + length x.skipped) 16 ≡ false = le-ltb _ _ (omega arith) in
    let sub : 16 + length x.skipped - 16 ≡ length x.skipped = omega arith in
    let first : ltb d.writer_sn 1 ≡ false = le-ltb _ _ valid.first in
    ap (data_at flags) x.text
    ∙ rw (
      standard,
      head_only (order_of flags) x.extra (16 + length x.skipped) d.reader_id d.writer_id d.writer_sn
          (x.skipped ++ x.from_parameters) x.extra_small x.skipped_small valid.reader valid.writer valid.small,
      way,
      sub,
      (field_octets (length x.skipped)).again x.skipped x.from_parameters refl,
      inline_only flags x.from_parameters x.parameters x.payload x.inline,
      body_only flags (order_of flags) x.parameters x.payload d.content.body x.says.body,
      first,
    ) (ap (λ (z : Option ℤ). Some (with_strength d z))
    (strength_only (order_of flags) x.parameters d.content.strength x.says.strength))
