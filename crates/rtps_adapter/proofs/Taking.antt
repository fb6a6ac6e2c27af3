-- A write of another type is read as a write of its value.
use Rattle.std.proofs.Common.{◌≡◌, ℕ, zero, suc, ◌+◌, ◌^◌, ◌<◌, ◌≤◌, Bool, true, false, eqb, ltb, List, [], ◌∷◌, ◌++◌, length, None, Some, refl, sym, ap, subst, ◌∙◌, append_assoc, arith}
use Rattle.std.specs.Prelude.{MatchBool}
use Rattle.std.specs.Int.{w16}
use Rattle.std.proofs.lemmas.Bool.{ne_eqb, le-ltb}
use Rattle.std.proofs.lemmas.List.{length-append}
use Rattle.dds_base.specs.declared.datum.Datum.{Datum}
use Rattle.dds_base.specs.declared.guid.GuidPrefix.{GuidPrefix}
use Rattle.dds_base.specs.declared.key.Key.{Key}
use Rattle.dds_base.specs.declared.endianness.Endianness.{Endianness}
use Rattle.dds_base.specs.declared.endianness.Endianness.TheVariants.{Little}
use Rattle.dds_base.specs.declared.guid.EntityId.{EntityId}
use Rattle.dds_base.specs.DatumText.{IsDatum, ReadsDatum, ReadsKey, spelling_of_datum, spelling_of_key}
use Rattle.dds_base.specs.Fields.{number, octets_at}
use Rattle.dds_base.proofs.FieldLaws.{field_u16, field_octets}
use Rattle.rtps_wire.specs.declared.data.ChangeBody.{ChangeBody}
use Rattle.rtps_wire.specs.declared.data.ChangeBody.TheVariants.{Write, Dispose, Unregister, DisposeUnregister}
use Rattle.rtps_wire.specs.declared.data.Data.{Data}
use Rattle.rtps_wire.specs.declared.submessage.Submessage.TheVariants as submessages
use Rattle.rtps_wire.specs.Data.{data_head, HasStatus, HasStrength, SaysBody, SaysContent, ReadsData, IsData}
use Rattle.rtps_wire.specs.Fields.{has_flag, order_of, sn_text}
use Rattle.rtps_wire.specs.Parameters.{Parameter, IsParameter, parameter_text, ReadsParameters}
use Rattle.rtps_wire.specs.ParametersAt.{parameter_at}
use Rattle.rtps_wire.specs.Submessages.{padding, Reads}
use Rattle.rtps_wire.proofs.WireFields.{len_16, field_entity_id}
use Rattle.rtps_adapter.specs.declared.direction.Direction.TheVariants.{Inward}
use Rattle.rtps_adapter.specs.declared.kinds.Kind.TheVariants.{Opaque}
use Rattle.rtps_adapter.specs.declared.kinds.KeyRule.{KeyRule}
use Rattle.rtps_adapter.specs.declared.kinds.WriterKind.{WriterKind}
use Rattle.rtps_adapter.specs.Kinds.{kind_of, most_of, rule_of}
use Rattle.rtps_adapter.specs.Keys.{key_by, key_alone}
use Rattle.rtps_adapter.specs.Opened.{after_first, after_parameters, after_inline, payload_at}
use Rattle.rtps_adapter.specs.Payloads.{value_at}
use Rattle.rtps_adapter.specs.Turning.{Piece, piece_of, has_payload, turned_payload, aligned, changed, turned}
use Rattle.rtps_adapter.specs.Taken.{Carries, SaysEnd, ValuesAreRead, ValuesAreReadWithGaps, KeysAreRead, KeysAreReadWithGaps}
use Rattle.rtps_adapter.proofs.Returning.{sn_length, changed_is, write_back, key_back}
use Rattle.rtps_adapter.proofs.KeyForms.{key_is_long}
use Rattle.rtps_adapter.specs.Filling.{named_at, is_lost, lost, filled}
use Rattle.rtps_adapter.proofs.Gaps.{named_writer}
use Rattle.rtps_adapter.proofs.Rounds.{not_lost, read_kept}

-- ---- parameters

parameter_skipped : (order : Endianness) (p : Parameter) (after : List ℕ) → IsParameter p
    → parameter_at order (parameter_text order p ++ after) ≡ Some (p.id, p.value, after)
unfolding parameter_at
parameter_skipped order p after valid =
    let no : eqb p.id 1 ≡ false = ne_eqb p.id 1 valid.no_sentinel in
    ap (parameter_at order) (regroup (number order w16 p.id) (number order w16 (length p.value)) p.value after)
    ∙ rw (
      (field_u16 order).again p.id (number order w16 (length p.value) ++ (p.value ++ after)) valid.small,
      (field_u16 order).again (length p.value) (p.value ++ after) valid.short,
      no,
      (field_octets (length p.value)).again p.value after refl,
    ) refl
  where
    regroup : (a b c d : List ℕ) → (a ++ b ++ c) ++ d ≡ a ++ (b ++ (c ++ d))
    regroup a b c d = simp append_assoc

sentinel_found : (order : Endianness) (len : ℕ) (rest : List ℕ) → len < 2 ^ 16
    → parameter_at order (number order w16 1 ++ number order w16 len ++ rest) ≡ Some (1, [], rest)
unfolding parameter_at
sentinel_found order len rest small =
    ap (parameter_at order) (append_assoc (number order w16 1) (number order w16 len) rest)
    ∙ rw (
      (field_u16 order).again 1 (number order w16 len ++ rest) (omega arith),
      (field_u16 order).again len rest small,
      (field_octets 0).again [] rest refl,
    ) refl

reads_first : (ps : List Parameter) (count : ℕ) (order : Endianness) (bytes rest : List ℕ)
    → ReadsParameters order bytes ps rest → length ps < count → after_first count order bytes ≡ Some rest
unfolding after_first
reads_first ps zero order bytes rest r lt = absurd (omega arith)
reads_first [] (suc count) order bytes rest r lt =
    ap (after_first (suc count) order) r.2 ∙ rw (sentinel_found order r.0 rest r.1) refl
reads_first (p ∷ ps) (suc count) order bytes rest r lt =
    let no : eqb p.id 1 ≡ false = ne_eqb p.id 1 r.1.no_sentinel in
    ap (after_first (suc count) order) r.2
    ∙ rw (parameter_skipped order p r.0 r.1, no) (reads_first ps count order r.0 rest r.3 (omega arith))

parameters_le : (ps : List Parameter) (order : Endianness) (bytes rest : List ℕ) → ReadsParameters order bytes ps rest
    → length ps ≤ length bytes
parameters_le [] order bytes rest r = omega arith
parameters_le (p ∷ ps) order bytes rest r =
    let id = number order w16 p.id in
    let len = number order w16 (length p.value) in
    omega (
      arith,
      parameters_le ps order r.0 rest r.3,
      ap length r.2,
      length-append (parameter_text order p) r.0,
      length-append (id ++ len) p.value,
      length-append id len,
      len_16 order p.id,
      len_16 order (length p.value),
    )

-- parameters, before other octets
record Swaps (order : Endianness) (bytes : List ℕ) (ps : List Parameter) (rest : List ℕ) : Type 0 where
  front : List ℕ
  parts : bytes ≡ front ++ rest
  again : (q : List ℕ) → ReadsParameters order (front ++ q) ps q

swaps : (ps : List Parameter) (order : Endianness) (bytes rest : List ℕ) → ReadsParameters order bytes ps rest
    → Swaps order bytes ps rest
swaps [] order bytes rest r = record {
  front = number order w16 1 ++ number order w16 r.0;
  parts = r.2;
  again = λ q. (r.0, r.1, refl);
}
swaps (p ∷ ps) order bytes rest r =
    let s : Swaps order r.0 ps rest = swaps ps order r.0 rest r.3 in
    record {
      front = parameter_text order p ++ s.front;
      parts = r.2 ∙ ap (λ (z : List ℕ). parameter_text order p ++ z) s.parts
          ∙ sym (append_assoc (parameter_text order p) s.front rest);
      again = λ q. (s.front ++ q, r.1, append_assoc (parameter_text order p) s.front q, s.again q);
    }

-- ---- up to the payload

abbrev Inline : Bool → Endianness → List ℕ → List Parameter → List ℕ → Type 0
Inline b order bytes ps payload = MatchBool b (ReadsParameters order bytes ps payload) ((ps ≡ []) × (payload ≡ bytes))

record SwapsInline (b : Bool) (order : Endianness) (bytes : List ℕ) (ps : List Parameter) (payload : List ℕ)
    : Type 0 where
  front : List ℕ
  parts : bytes ≡ front ++ payload
  again : (q : List ℕ) → Inline b order (front ++ q) ps q

swaps_inline : (b : Bool) (order : Endianness) (bytes : List ℕ) (ps : List Parameter) (payload : List ℕ)
    → Inline b order bytes ps payload → SwapsInline b order bytes ps payload
swaps_inline true order bytes ps payload r =
    let s = swaps ps order bytes payload r in record { front = s.front; parts = s.parts; again = s.again }
swaps_inline false order bytes ps payload r =
    record { front = []; parts = sym r.1; again = λ q. (r.0, refl) }

inline_found : (flags : ℕ) (bytes : List ℕ) (ps : List Parameter) (payload : List ℕ) (b : Bool)
    → has_flag flags 2 ≡ b → Inline b (order_of flags) bytes ps payload → after_inline flags bytes ≡ Some payload
unfolding after_inline after_parameters
inline_found flags bytes ps payload true is r =
    rw is (reads_first ps (suc (length bytes)) (order_of flags) bytes payload r
    (omega (arith, parameters_le ps (order_of flags) bytes payload r)))
inline_found flags bytes ps payload false is r = rw is (ap Some (sym r.1))

head_opens : (flags extra : ℕ) (r w : EntityId) (sn : ℕ) (skipped rest q : List ℕ) → has_flag flags 16 ≡ false
    → extra < 2 ^ 16 → 16 + length skipped < 2 ^ 16 → length r.0 ≡ 4 → length w.0 ≡ 4
    → after_inline flags rest ≡ Some q
    → payload_at flags (data_head (order_of flags) extra (16 + length skipped) r w sn ++ (skipped ++ rest)) ≡ Some (w, q)
unfolding payload_at
head_opens flags extra r w sn skipped rest q no_flag small short reader writer inline =
    let order = order_of flags in
    let text = sn_text (order_of flags) sn in
    let behind = skipped ++ rest in
    let way : ltb (16 + length skipped) 16 ≡ false = le-ltb (16 + length skipped) 16 (omega arith) in
    let long : length (r.0 ++ (w.0 ++ (sn_text (order_of flags) sn ++ skipped))) ≡ 16 + length skipped =
    omega (
      arith,
      length-append r.0 (w.0 ++ (text ++ skipped)),
      length-append w.0 (text ++ skipped),
      length-append text skipped,
      sn_length order sn,
      reader,
      writer,
    ) in
    let named : octets_at (16 + length skipped) (r.0 ++ (w.0 ++ (sn_text (order_of flags) sn ++ (skipped ++ rest))))
    ≡ Some (r.0 ++ (w.0 ++ (sn_text (order_of flags) sn ++ skipped)), rest) =
    ap (octets_at (16 + length skipped)) (together r.0 w.0 text skipped rest)
    ∙ (field_octets (16 + length skipped)).again (r.0 ++ (w.0 ++ (sn_text (order_of flags) sn ++ skipped))) rest long in
    ap (payload_at flags)
    (regroup (number order w16 extra) (number order w16 (16 + length skipped)) r.0 w.0 (sn_text (order_of flags) sn)
    (skipped ++ rest))
    ∙ rw (
      no_flag,
      (field_u16 (order_of flags)).again extra (number order w16 (16 + length skipped)
          ++ (r.0 ++ (w.0 ++ (sn_text (order_of flags) sn ++ (skipped ++ rest))))) small,
      (field_u16 (order_of flags)).again (16 + length skipped)
          (r.0 ++ (w.0 ++ (sn_text (order_of flags) sn ++ (skipped ++ rest)))) short,
      field_entity_id.again r (w.0 ++ (sn_text (order_of flags) sn ++ (skipped ++ rest))) reader,
      field_entity_id.again w (sn_text (order_of flags) sn ++ (skipped ++ rest)) writer,
      way,
      named,
      inline,
    ) refl
  where
    regroup : (a b c d e f : List ℕ) → (a ++ b ++ c ++ d ++ e) ++ f ≡ a ++ (b ++ (c ++ (d ++ (e ++ f))))
    regroup a b c d e f = simp append_assoc

    together : (a b c d e : List ℕ) → a ++ (b ++ (c ++ (d ++ e))) ≡ (a ++ (b ++ (c ++ d))) ++ e
    together a b c d e = simp append_assoc

-- ---- the DATA

inward_is : (rule : KeyRule) (is_key : Bool) (front payload : List ℕ) (datum : Datum) → is_key ≡ false
    → value_at payload ≡ Some datum.value → key_by rule datum.value ≡ Some datum.key
    → turned_payload Inward (record { rule = rule; is_key = is_key; front = front; octets = payload })
    ≡ Some (spelling_of_datum datum)
unfolding turned_payload
inward_is rule is_key front payload datum clear value key = rw clear (write_back rule datum payload key value)

inward_key : (rule : KeyRule) (is_key : Bool) (front payload value : List ℕ) (k : Key) → is_key ≡ true
    → value_at payload ≡ Some value → key_alone rule value ≡ Some k
    → turned_payload Inward (record { rule = rule; is_key = is_key; front = front; octets = payload })
    ≡ Some (spelling_of_key k)
unfolding turned_payload
inward_key rule is_key front payload value k set opens key = rw set (key_back rule k payload value opens key)

-- What a DATA of another type is turned into is read, where that says what it does and is no longer than a datum may be;
-- so it is with GAPs, where this has no more octets than the table says.
abbrev AreRead : List WriterKind → GuidPrefix → Piece → Data → List ℕ → Type 0
AreRead kinds source p d new =
    Reads (turned Inward kinds source p).id (turned Inward kinds source p).flags (turned Inward kinds source p).body
    (submessages.Data d)
    × (length new ≤ 24 + most_of kinds source d.writer_id
    → Reads (filled kinds source p).id (filled kinds source p).flags (filled kinds source p).body (submessages.Data d))

is_read : (has_value has_key : Bool) (kinds : List WriterKind) (source : GuidPrefix) (p : Piece) (ps : List Parameter)
    (payload new : List ℕ) (rule : KeyRule) (d : Data)
    → Carries has_value has_key p d.reader_id d.writer_id d.writer_sn ps payload → has_payload p.flags ≡ true
    → kind_of kinds source d.writer_id ≡ Opaque rule
    → ((front : List ℕ) → turned_payload Inward (record {
      rule = rule;
      is_key = has_flag p.flags 8;
      front = front;
      octets = payload;
    }) ≡ Some new)
    → ((zeros : List ℕ) → SaysContent p.flags ps (new ++ zeros) d.content) → IsData d
    → AreRead kinds source p d new
unfolding changed turned_payload
is_read has_value has_key kinds source p ps payload new rule d w has kind turns says is_data =
    let s = swaps_inline (has_flag p.flags 2) (order_of p.flags) w.from_parameters ps payload w.inline in
    let head = data_head (order_of p.flags) w.extra (16 + length w.skipped) d.reader_id d.writer_id d.writer_sn in
    let front : List ℕ = head ++ (w.skipped ++ s.front) in
    let behind : (q : List ℕ) → (head ++ (w.skipped ++ s.front)) ++ q ≡ head ++ (w.skipped ++ (s.front ++ q)) =
    λ q. regroup head w.skipped s.front q in
    let opens : payload_at p.flags ((head ++ (w.skipped ++ s.front)) ++ payload) ≡ Some (d.writer_id, payload) =
    ap (payload_at p.flags) (behind payload)
    ∙ head_opens p.flags w.extra d.reader_id d.writer_id d.writer_sn w.skipped (s.front ++ payload) payload w.standard
    w.extra_small w.skipped_small is_data.reader is_data.writer
    (inline_found p.flags (s.front ++ payload) ps payload (has_flag p.flags 2) refl (s.again payload)) in
    let was : p.body ≡ (head ++ (w.skipped ++ s.front)) ++ payload =
    w.text ∙ ap (λ (z : List ℕ). head ++ (w.skipped ++ z)) s.parts ∙ sym (behind payload) in
    let change : changed Inward kinds source 21 p.flags ((head ++ (w.skipped ++ s.front)) ++ payload)
    ≡ Some (p.flags, aligned ((head ++ (w.skipped ++ s.front)) ++ new)) =
    changed_is Inward kinds source p.flags d.writer_id (head ++ (w.skipped ++ s.front)) payload new rule has opens
    (ap rule_of kind) (turns (head ++ (w.skipped ++ s.front))) in
    let here : changed Inward kinds source p.id p.flags p.body
    ≡ Some (p.flags, aligned ((head ++ (w.skipped ++ s.front)) ++ new)) = rw (w.kind, was) change in
    let is : turned Inward kinds source p ≡ piece_of p.id p.flags (aligned ((head ++ (w.skipped ++ s.front)) ++ new)) =
    rw here refl in
    let zeros = padding (length ((head ++ (w.skipped ++ s.front)) ++ new)) in
    let text : aligned ((head ++ (w.skipped ++ s.front)) ++ new) ≡ head ++ (w.skipped ++ (s.front ++ (new ++ zeros))) =
    append_assoc (head ++ (w.skipped ++ s.front)) new zeros ∙ behind (new ++ zeros) in
    let known : ReadsData p.flags (aligned ((head ++ (w.skipped ++ s.front)) ++ new)) d =
    record {
      extra = w.extra;
      skipped = w.skipped;
      from_parameters = s.front ++ (new ++ zeros);
      parameters = ps;
      payload = new ++ zeros;
      extra_small = w.extra_small;
      skipped_small = w.skipped_small;
      text = text;
      inline = s.again (new ++ zeros);
      says = says zeros;
    } in
    let read : Reads (turned Inward kinds source p).id (turned Inward kinds source p).flags
    (turned Inward kinds source p).body (submessages.Data d) =
    subst (λ (q : Piece). Reads q.id q.flags q.body (submessages.Data d)) (sym is)
    (record { kind = w.kind; flags_are = w.standard; body_is = known; valid = is_data }) in
    let body : List ℕ = (head ++ (w.skipped ++ s.front)) ++ payload in
    let kept : length new ≤ 24 + most_of kinds source d.writer_id
    → lost kinds source 21 p.flags ((head ++ (w.skipped ++ s.front)) ++ payload) ≡ None =
    λ short. not_lost kinds source 21 p.flags body (named_at p.flags body) refl (λ x e.
    subst (λ (writer : EntityId). is_lost kinds source writer 21 p.flags body ≡ false)
    (sym (named_writer p.flags w.extra (16 + length w.skipped) d.reader_id d.writer_id d.writer_sn
    (w.skipped ++ (s.front ++ payload)) x is_data.reader is_data.writer is_data.small
    (ap (named_at p.flags) (sym (behind payload)) ∙ e)))
    (read_kept kinds source p.flags d.writer_id front payload new rule has opens (ap rule_of kind) (turns front) short)) in
    let same : length new ≤ 24 + most_of kinds source d.writer_id → filled kinds source p ≡ turned Inward kinds source p =
    λ short. let here_kept = kept short in rw (w.kind, was, here_kept) refl in
    (read, λ short. subst (λ (q : Piece). Reads q.id q.flags q.body (submessages.Data d)) (sym (same short)) read)
  where
    regroup : (a b c d : List ℕ) → (a ++ (b ++ c)) ++ d ≡ a ++ (b ++ (c ++ d))
    regroup a b c d = simp append_assoc

both_read : (kinds : List WriterKind) (source : GuidPrefix) (p : Piece) (ps : List Parameter) (payload : List ℕ)
    (rule : KeyRule) (datum : Datum) (d : Data) → Carries true false p d.reader_id d.writer_id d.writer_sn ps payload
    → HasStatus ps false false → HasStrength (order_of p.flags) ps d.content.strength
    → kind_of kinds source d.writer_id ≡ Opaque rule
    → value_at payload ≡ Some datum.value → key_by rule datum.value ≡ Some datum.key → IsDatum datum
    → d.content.body ≡ Write datum → IsData d → AreRead kinds source p d (spelling_of_datum datum)
both_read kinds source p ps payload rule datum d w status strength kind value key valid body is_data =
    is_read true false kinds source p ps payload (spelling_of_datum datum) rule d w (rw (w.value_flag, w.key_flag) refl)
    kind
    (λ front. inward_is rule (has_flag p.flags 8) front payload datum w.key_flag value key)
    (λ zeros.
    let reads : ReadsDatum (spelling_of_datum datum ++ zeros) datum =
    record { order = Little; options = 0 ∷ 0 ∷ []; rest = zeros; two = refl; text = refl; valid = valid } in
    record { body = rw body (status, w.value_flag, w.key_flag, reads); strength = strength })
    is_data

datum_short : (datum : Datum) → IsDatum datum → (most : ℕ) → length datum.value ≤ most
    → length (spelling_of_datum datum) ≤ 24 + most
datum_short datum valid most few = simp length-append (omega (arith, valid.key, few))

pub values_are_read : ValuesAreRead
values_are_read kinds source p ps payload rule datum d w status strength kind value key valid body is_data short =
    (both_read kinds source p ps payload rule datum d w status strength kind value key valid body is_data).0

pub values_are_read_filled : ValuesAreReadWithGaps
values_are_read_filled kinds source p ps payload rule datum d w status strength kind value key valid body is_data short =
    (both_read kinds source p ps payload rule datum d w status strength kind value key valid body is_data).1
    (datum_short datum valid (most_of kinds source d.writer_id) short)

-- the key form of an instance that is ended
says_end : (flags : ℕ) (ps : List Parameter) (k : Key) (zeros : List ℕ) (body : ChangeBody) → has_flag flags 4 ≡ false
    → has_flag flags 8 ≡ true → length k.0 ≡ 16 → SaysEnd ps k body → SaysBody flags ps (spelling_of_key k ++ zeros) body
says_end flags ps k zeros body no_value key len ends = by_body body ends
  where
    reads : (own : Key) → own ≡ k → ReadsKey (spelling_of_key k ++ zeros) own
    reads own is = subst (λ (z : Key). ReadsKey (spelling_of_key k ++ zeros) z) (sym is)
        (record { order = Little; options = 0 ∷ 0 ∷ []; rest = zeros; two = refl; text = refl; valid = len })

    by_body : (body : ChangeBody) → SaysEnd ps k body → SaysBody flags ps (spelling_of_key k ++ zeros) body
    by_body (Write d) ends = absurd ends
    by_body (Dispose own) ends = (ends.0, rw (no_value, key) (reads own ends.1))
    by_body (Unregister own) ends = (ends.0, rw (no_value, key) (reads own ends.1))
    by_body (DisposeUnregister own) ends = (ends.0, rw (no_value, key) (reads own ends.1))

both_keys_read : (kinds : List WriterKind) (source : GuidPrefix) (p : Piece) (ps : List Parameter)
    (payload value : List ℕ) (rule : KeyRule) (k : Key) (d : Data)
    → Carries false true p d.reader_id d.writer_id d.writer_sn ps payload
    → SaysEnd ps k d.content.body → HasStrength (order_of p.flags) ps d.content.strength
    → kind_of kinds source d.writer_id ≡ Opaque rule
    → value_at payload ≡ Some value → key_alone rule value ≡ Some k → IsData d
    → AreRead kinds source p d (spelling_of_key k)
both_keys_read kinds source p ps payload value rule k d w ends strength kind opens key is_data =
    let len = key_is_long true rule value k key in
    is_read false true kinds source p ps payload (spelling_of_key k) rule d w (rw (w.value_flag, w.key_flag) refl) kind
    (λ front. inward_key rule (has_flag p.flags 8) front payload value k w.key_flag opens key)
    (λ zeros. record {
      body = says_end p.flags ps k zeros d.content.body w.value_flag w.key_flag len ends;
      strength = strength;
    })
    is_data

pub keys_are_read : KeysAreRead
keys_are_read kinds source p ps payload value rule k d w ends strength kind opens key is_data =
    (both_keys_read kinds source p ps payload value rule k d w ends strength kind opens key is_data).0

pub keys_are_read_filled : KeysAreReadWithGaps
keys_are_read_filled kinds source p ps payload value rule k d w ends strength kind opens key is_data =
    let len = key_is_long true rule value k key in
    (both_keys_read kinds source p ps payload value rule k d w ends strength kind opens key is_data).1 (omega (arith, len))
