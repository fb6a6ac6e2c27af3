-- Each submessage that a peer wrote comes back as it was.
use Rattle.std.proofs.Common.{◌≡◌, ℕ, ◌+◌, ◌%◌, ◌<◌, ◌≤◌, Bool, true, false, eqb, ltb, ◌&&◌, List, [], ◌∷◌, ◌++◌, length, Option, Some, None, refl, sym, ap, subst, ◌∙◌, append_assoc, arith, ℤ}
use Rattle.std.proofs.lemmas.Bool.{ne_eqb, le-ltb}
use Rattle.std.proofs.lemmas.List.{length-append}
use Rattle.dds_base.specs.declared.endianness.Endianness.TheVariants.{Little}
use Rattle.dds_base.specs.declared.endianness.Endianness.{Endianness}
use Rattle.dds_base.specs.declared.guid.EntityId.{EntityId}
use Rattle.dds_base.specs.declared.guid.GuidPrefix.{GuidPrefix}
use Rattle.dds_base.specs.declared.key.Key.{Key}
use Rattle.rtps_wire.specs.declared.data.ChangeBody.{ChangeBody}
use Rattle.rtps_wire.specs.declared.data.ChangeBody.TheVariants.{Write, Dispose, Unregister, DisposeUnregister}
use Rattle.rtps_wire.specs.declared.data.Data.{Data}
use Rattle.rtps_wire.specs.declared.submessage.Submessage.{Submessage}
use Rattle.rtps_wire.specs.declared.submessage.Submessage.TheVariants as submessages
use Rattle.rtps_wire.specs.Data.{data_head, IsData, IsBody, IsContent, content_flags, strength_text, sentinel_text}
use Rattle.rtps_wire.specs.Fields.{has_flag, sn_text, count_text}
use Rattle.rtps_wire.specs.Frames.{runs_to_end}
use Rattle.rtps_wire.specs.Gap.{gap_head}
use Rattle.rtps_wire.specs.AckNack.{text_of_acknack}
use Rattle.rtps_wire.specs.Heartbeat.{heartbeat_text}
use Rattle.rtps_wire.specs.Parameters.{parameter_text}
use Rattle.rtps_wire.specs.Sets.{text_of_set}
use Rattle.rtps_wire.specs.Submessages.{id_of, flags_of, body_of, octets_of_change, padding, IsSpellable}
use Rattle.rtps_wire.proofs.SetSpelling.{text_of_set_len}
use Rattle.rtps_adapter.specs.declared.direction.Direction.TheVariants.{Inward, Outward}
use Rattle.rtps_adapter.specs.declared.kinds.Kind.{Kind}
use Rattle.rtps_adapter.specs.declared.kinds.Kind.TheVariants as kinds_of
use Rattle.rtps_adapter.specs.declared.kinds.KeyRule.{KeyRule}
use Rattle.rtps_adapter.specs.declared.kinds.KeyRule.TheVariants.{Keyless, Fields, ParameterList}
use Rattle.rtps_adapter.specs.declared.kinds.WriterKind.{WriterKind}
use Rattle.rtps_adapter.specs.Kinds.{kind_of, most_of, rule_of}
use Rattle.rtps_adapter.specs.Opened.{payload_at}
use Rattle.rtps_adapter.specs.Turning.{Piece, piece_of, aligned, has_payload, foreign_payload, turned_payload, changed, turned}
use Rattle.rtps_adapter.specs.Payloads.{inward_payload, outward_payload}
use Rattle.rtps_adapter.specs.Filling.{named_at, is_lost, lost, filled}
use Rattle.rtps_adapter.proofs.Gaps.{named_writer}
use Rattle.rtps_adapter.specs.ComesBack.{IsKey, FitsRule, FitsKind, Fits, IsWithin, GetsNoLonger, StaysShort, IsShort}
use Rattle.rtps_adapter.proofs.Returning.{written_parameters, written_payload, written_whole, says_key, carries_payload, key_flag, head_of_data, data_opens, data_returns, write_there, write_back, payload_back, payload_less, key_returns, key_there, foreign_not, foreign_is, is_little}

-- a submessage as it is written
abbrev pub spelled : Submessage → Piece
spelled s = piece_of (id_of s) (flags_of s) (body_of s)

-- what a submessage turns into on its way out, and that it comes back; its number is kept where its value is within what
-- the table says, and it gets no longer where it is short
pub record Round (kinds : List WriterKind) (source : GuidPrefix) (p : Piece) (Within Short : Type 0) : Type 0 where
  pub flags : ℕ
  pub body : List ℕ
  pub out_is : turned Outward kinds source p ≡ piece_of p.id flags body
  pub back_is : turned Inward kinds source (piece_of p.id flags body) ≡ p
  pub within : runs_to_end p.id (length body) ≡ false
  pub shorter : Short → length body ≤ length p.body
  pub was_within : runs_to_end p.id (length p.body) ≡ false
  pub kept : Within → lost kinds source p.id flags body ≡ None

-- it comes back too where numbers that can't be read stand in GAPs
pub filled_back : (kinds : List WriterKind) (source : GuidPrefix) (p : Piece) (Within Short : Type 0)
    (r : Round kinds source p Within Short) → Within → filled kinds source (piece_of p.id r.flags r.body) ≡ p
filled_back kinds source p Within Short r within = let kept = r.kept within in rw kept r.back_is

-- a number that can be read
pub not_lost : (kinds : List WriterKind) (source : GuidPrefix) (id flags : ℕ) (body : List ℕ)
    (o : Option (EntityId × EntityId × ℕ)) → named_at flags body ≡ o
    → ((x : EntityId × EntityId × ℕ) → o ≡ Some x → is_lost kinds source x.1 id flags body ≡ false)
    → lost kinds source id flags body ≡ None
unfolding lost
not_lost kinds source id flags body None e is = rw e refl
not_lost kinds source id flags body (Some x) e is = rw (e, is x refl) refl

-- ---- where a submessage ends

pub positive_within : (id len : ℕ) → 0 < len → runs_to_end id len ≡ false
positive_within id len lt =
    let some : eqb len 0 ≡ false = ne_eqb len 0 (λ e. omega (arith, lt, e)) in
    rw some refl

and_false : (b : Bool) → (b && false) ≡ false
and_false true = refl
and_false false = refl

pad_within : (len : ℕ) → runs_to_end 1 len ≡ false
pad_within len = rw (and_false (eqb len 0)) refl

stamp_within : (len : ℕ) → runs_to_end 9 len ≡ false
stamp_within len = and_false (eqb len 0 && true)

aligned_positive : (text : List ℕ) → 0 < length text → 0 < length (text ++ padding (length text))
aligned_positive text lt = omega (arith, lt, length-append text (padding (length text)))

-- ---- what stands

-- what has no payload to be turned stays both ways
stays : (kinds : List WriterKind) (source : GuidPrefix) (id flags : ℕ) (body : List ℕ)
    → foreign_payload kinds source id flags body ≡ None → runs_to_end id (length body) ≡ false
    → (Within : Type 0) → (Within → lost kinds source id flags body ≡ None)
    → Round kinds source (piece_of id flags body) Within (Unit {0})
unfolding changed
stays kinds source id flags body none within Within kept = record {
  flags = flags;
  body = body;
  out_is = rw none refl;
  back_is = rw none refl;
  within = within;
  shorter = λ short. omega arith;
  was_within = within;
  kept = kept;
}

other_kept : (kinds : List WriterKind) (source : GuidPrefix) (id flags : ℕ) (body : List ℕ) → eqb id 21 ≡ false
    → eqb id 22 ≡ false → lost kinds source id flags body ≡ None
other_kept kinds source id flags body other fragment =
    not_lost kinds source id flags body (named_at flags body) refl (λ x e. rw (other, fragment) refl)

other_id : (kinds : List WriterKind) (source : GuidPrefix) (id flags : ℕ) (body : List ℕ) → eqb id 21 ≡ false
    → foreign_payload kinds source id flags body ≡ None
unfolding foreign_payload
other_id kinds source id flags body other = rw other refl

-- a submessage of another kind
passed_on : (kinds : List WriterKind) (source : GuidPrefix) (id flags : ℕ) (body : List ℕ) → eqb id 21 ≡ false
    → eqb id 22 ≡ false → runs_to_end id (length body) ≡ false
    → Round kinds source (piece_of id flags body) (Unit {0}) (Unit {0})
passed_on kinds source id flags body other fragment within =
    stays kinds source id flags body (other_id kinds source id flags body other) within (Unit {0})
    (λ short. other_kept kinds source id flags body other fragment)

-- ---- DATA

-- the number of a DATA that can be turned back
pub read_kept : (kinds : List WriterKind) (source : GuidPrefix) (flags : ℕ) (w : EntityId) (front q written : List ℕ)
    (rule : KeyRule) → has_payload flags ≡ true → payload_at flags (front ++ q) ≡ Some (w, q)
    → rule_of (kind_of kinds source w) ≡ Some rule → inward_payload rule (has_flag flags 8) q ≡ Some written
    → length written ≤ 24 + most_of kinds source w → is_lost kinds source w 21 flags (front ++ q) ≡ false
unfolding turned_payload
read_kept kinds source flags w front q written rule has opens is back short =
    let few : ltb (24 + most_of kinds source w) (length written) ≡ false =
    le-ltb (24 + most_of kinds source w) (length written) short in
    rw (is, foreign_is kinds source flags w front q rule has opens is, back, few) refl

written_short : (b : ChangeBody) → IsBody b → (most : ℕ) → octets_of_change b ≤ most
    → length (written_payload b) ≤ 24 + most
written_short (Write d) valid most few = simp length-append (omega (arith, valid.key, few))
written_short (Dispose k) valid most few = omega (arith, valid)
written_short (Unregister k) valid most few = omega (arith, valid)
written_short (DisposeUnregister k) valid most few = omega (arith, valid)

-- it names its writer
data_names : (d : Data) (q : List ℕ) (x : EntityId × EntityId × ℕ) → IsData d
    → named_at (content_flags d.content)
    (head_of_data d.reader_id d.writer_id d.writer_sn d.content.body d.content.strength ++ q) ≡ Some x
    → x.1 ≡ d.writer_id
data_names d q x valid e =
    let flags = content_flags d.content in
    let rest : List ℕ = written_parameters d.content.body d.content.strength ++ q in
    named_writer (content_flags d.content) 0 16 d.reader_id d.writer_id d.writer_sn rest x valid.reader valid.writer
    valid.small
    (ap (λ (order : Endianness). named_at flags (data_head order 0 16 d.reader_id d.writer_id d.writer_sn ++ rest))
    (is_little d.content.body d.content.strength)
    ∙ ap (named_at flags) (sym (append_assoc (data_head Little 0 16 d.reader_id d.writer_id d.writer_sn)
    (written_parameters d.content.body d.content.strength) q))
    ∙ e)

-- its number is kept, where that is so of its writer
data_kept : (kinds : List WriterKind) (source : GuidPrefix) (d : Data) (q : List ℕ) → IsData d
    → is_lost kinds source d.writer_id 21 (content_flags d.content)
    (head_of_data d.reader_id d.writer_id d.writer_sn d.content.body d.content.strength ++ q) ≡ false
    → lost kinds source 21 (content_flags d.content)
    (head_of_data d.reader_id d.writer_id d.writer_sn d.content.body d.content.strength ++ q) ≡ None
data_kept kinds source d q valid is =
    let body = head_of_data d.reader_id d.writer_id d.writer_sn d.content.body d.content.strength ++ q in
    not_lost kinds source 21 (content_flags d.content) body (named_at (content_flags d.content) body) refl (λ x e.
    subst (λ (w : EntityId). is_lost kinds source w 21 (content_flags d.content) body ≡ false)
    (sym (data_names d q x valid e)) is)

data_whole : (d : Data) → body_of (submessages.Data d)
    ≡ aligned (head_of_data d.reader_id d.writer_id d.writer_sn d.content.body d.content.strength
    ++ written_payload d.content.body)
data_whole d =
    let head = data_head Little 0 16 d.reader_id d.writer_id d.writer_sn in
    ap aligned (ap (λ (z : List ℕ). data_head Little 0 16 d.reader_id d.writer_id d.writer_sn ++ z)
    (written_whole d.content.body d.content.strength)
    ∙ sym (append_assoc head (written_parameters d.content.body d.content.strength) (written_payload d.content.body)))

strength_whole : (strength : Option ℤ) → length (strength_text strength) % 4 ≡ 0
strength_whole None = refl
strength_whole (Some z) = refl

end_whole : (status : ℕ) (k : Key) (strength : Option ℤ) → length k.0 ≡ 16
    → length (parameter_text Little (record { id = 112; value = k.0 })
    ++ parameter_text Little (record { id = 113; value = 0 ∷ 0 ∷ 0 ∷ status ∷ [] }) ++ strength_text strength
    ++ sentinel_text) % 4 ≡ 0
end_whole status k strength len = simp length-append (omega (arith, len, strength_whole strength))

parameters_whole : (b : ChangeBody) (strength : Option ℤ) → IsBody b → length (written_parameters b strength) % 4 ≡ 0
parameters_whole (Write d) None valid = refl
parameters_whole (Write d) (Some z) valid = refl
parameters_whole (Dispose k) strength valid = end_whole 1 k strength valid
parameters_whole (Unregister k) strength valid = end_whole 2 k strength valid
parameters_whole (DisposeUnregister k) strength valid = end_whole 3 k strength valid

head_whole : (d : Data) → IsData d → IsBody d.content.body
    → length (head_of_data d.reader_id d.writer_id d.writer_sn d.content.body d.content.strength) % 4 ≡ 0
head_whole d valid body =
    let head = data_head Little 0 16 d.reader_id d.writer_id d.writer_sn in
    let long : length (data_head Little 0 16 d.reader_id d.writer_id d.writer_sn) ≡ 20 =
    simp length-append (omega (arith, valid.reader, valid.writer)) in
    omega (
      arith,
      long,
      length-append head (written_parameters d.content.body d.content.strength),
      parameters_whole d.content.body d.content.strength body,
    )

-- what a change is turned into, and back
record Turning (rule : KeyRule) (b : ChangeBody) (is_key : Bool) : Type 0 where
  new : List ℕ
  whole : length new % 4 ≡ 0
  less : GetsNoLonger rule b → length new ≤ length (written_payload b)
  there : (zeros : List ℕ) → outward_payload rule is_key (written_payload b ++ zeros) ≡ Some new
  back : inward_payload rule is_key new ≡ Some (written_payload b)

key_turning : (rule : KeyRule) (k : Key) → length k.0 ≡ 16 → IsKey rule k → Turning rule (Dispose k) true
key_turning rule k len is =
    let r = key_returns rule k len is in
    record {
      new = r.new;
      whole = r.whole;
      less = r.less;
      there = λ zeros. key_there rule k r.new zeros len r.sent;
      back = r.back;
    }

-- no list says a key alone, whatever becomes of its instance
as_dispose : (rule : KeyRule) (b : ChangeBody) (k : Key) → says_key b ≡ true → GetsNoLonger rule b
    → GetsNoLonger rule (Dispose k)
as_dispose Keyless b k e short = tt
as_dispose (Fields encoding fields) b k e short = tt
as_dispose ParameterList (Write d) k e short = absurd cc
as_dispose ParameterList (Dispose other) k e short = absurd short
as_dispose ParameterList (Unregister other) k e short = absurd short
as_dispose ParameterList (DisposeUnregister other) k e short = absurd short

turning : (rule : KeyRule) (b : ChangeBody) → IsBody b → FitsRule rule b → Turning rule b (says_key b)
turning rule (Write d) valid fits =
    let returns = payload_back d.value fits.0.0 fits.0.1 in
    record {
      new = fits.0.0;
      whole = returns.1;
      less = λ short. payload_less d fits.0.0 valid fits.0.1;
      there = λ zeros. write_there rule d fits.0.0 zeros valid fits.1 fits.0.1;
      back = write_back rule d fits.0.0 fits.1 returns.0;
    }
turning rule (Dispose k) valid fits = key_turning rule k valid fits
turning rule (Unregister k) valid fits =
    let t = key_turning rule k valid fits in
    record {
      new = t.new;
      whole = t.whole;
      less = λ short. t.less (as_dispose rule (Unregister k) k refl short);
      there = t.there;
      back = t.back;
    }
turning rule (DisposeUnregister k) valid fits =
    let t = key_turning rule k valid fits in
    record {
      new = t.new;
      whole = t.whole;
      less = λ short. t.less (as_dispose rule (DisposeUnregister k) k refl short);
      there = t.there;
      back = t.back;
    }

data_turned : (kinds : List WriterKind) (source : GuidPrefix) (d : Data) (rule : KeyRule) → IsData d
    → IsContent d.content → rule_of (kind_of kinds source d.writer_id) ≡ Some rule → FitsRule rule d.content.body
    → Round kinds source (spelled (submessages.Data d)) (IsWithin kinds source (submessages.Data d))
    (GetsNoLonger rule d.content.body)
data_turned kinds source d rule valid content is fits =
    let b = d.content.body in
    let flags = content_flags d.content in
    let front = head_of_data d.reader_id d.writer_id d.writer_sn d.content.body d.content.strength in
    let t : Turning rule d.content.body (has_flag (content_flags d.content) 8) =
    subst (λ (key : Bool). Turning rule d.content.body key) (sym (key_flag d.content.body d.content.strength))
    (turning rule d.content.body content.body fits) in
    let whole : body_of (submessages.Data d)
    ≡ aligned (head_of_data d.reader_id d.writer_id d.writer_sn d.content.body d.content.strength
    ++ written_payload d.content.body) = data_whole d in
    let r =
    data_returns kinds source (content_flags d.content) d.writer_id
    (head_of_data d.reader_id d.writer_id d.writer_sn d.content.body d.content.strength)
    (written_payload d.content.body) t.new rule (carries_payload d.content.body d.content.strength)
    (λ q. data_opens d.reader_id d.writer_id d.writer_sn d.content.body d.content.strength q valid.reader valid.writer
    content.body)
    is (head_whole d valid content.body) t.whole t.there t.back in
    subst (λ (z : List ℕ). Round kinds source (piece_of 21 (content_flags d.content) z)
    (IsWithin kinds source (submessages.Data d)) (GetsNoLonger rule d.content.body)) (sym whole) (record {
      flags = content_flags d.content;
      body = head_of_data d.reader_id d.writer_id d.writer_sn d.content.body d.content.strength ++ t.new;
      out_is = r.out_is;
      back_is = r.back_is;
      within = positive_within 21 (length (front ++ t.new)) (omega arith);
      shorter = λ short. omega (
        arith,
        t.less short,
        length-append front t.new,
        length-append (front ++ written_payload d.content.body)
            (padding (length (front ++ written_payload d.content.body))),
        length-append front (written_payload d.content.body),
      );
      was_within = positive_within 21 (length (aligned (front ++ written_payload d.content.body))) (omega arith);
      kept = λ short. data_kept kinds source d t.new valid
          (read_kept kinds source (content_flags d.content) d.writer_id
          (head_of_data d.reader_id d.writer_id d.writer_sn d.content.body d.content.strength) t.new
          (written_payload d.content.body) rule (carries_payload d.content.body d.content.strength)
          (data_opens d.reader_id d.writer_id d.writer_sn d.content.body d.content.strength t.new valid.reader
          valid.writer content.body)
          is t.back (written_short d.content.body content.body (most_of kinds source d.writer_id) short));
    })

data_stays : (kinds : List WriterKind) (source : GuidPrefix) (d : Data) → IsData d → IsContent d.content
    → rule_of (kind_of kinds source d.writer_id) ≡ None
    → Round kinds source (spelled (submessages.Data d)) (IsWithin kinds source (submessages.Data d)) (Unit {0})
data_stays kinds source d valid content is =
    let front = head_of_data d.reader_id d.writer_id d.writer_sn d.content.body d.content.strength in
    let whole = data_whole d in
    let zeros = padding (length (front ++ written_payload d.content.body)) in
    let parts : body_of (submessages.Data d)
    ≡ head_of_data d.reader_id d.writer_id d.writer_sn d.content.body d.content.strength
    ++ (written_payload d.content.body ++ padding (length (front ++ written_payload d.content.body))) =
    data_whole d ∙ append_assoc front (written_payload d.content.body) zeros in
    let opens =
    ap (payload_at (content_flags d.content)) parts
    ∙ data_opens d.reader_id d.writer_id d.writer_sn d.content.body d.content.strength
    (written_payload d.content.body ++ zeros) valid.reader valid.writer content.body in
    stays kinds source 21 (content_flags d.content) (body_of (submessages.Data d))
    (foreign_not kinds source (content_flags d.content) d.writer_id (body_of (submessages.Data d))
    (written_payload d.content.body ++ padding (length (front ++ written_payload d.content.body)))
    (carries_payload d.content.body d.content.strength) opens is)
    (positive_within 21 (length (body_of (submessages.Data d))) (omega arith))
    (IsWithin kinds source (submessages.Data d))
    (λ short. ap (lost kinds source 21 (content_flags d.content)) parts
    ∙ data_kept kinds source d (written_payload d.content.body ++ zeros) valid (rw is refl))

data_round : (kinds : List WriterKind) (source : GuidPrefix) (d : Data) (kind : Kind) → IsData d → IsContent d.content
    → kind_of kinds source d.writer_id ≡ kind → FitsKind kind d.content.body
    → Round kinds source (spelled (submessages.Data d)) (IsWithin kinds source (submessages.Data d))
    (StaysShort kind d.content.body)
data_round kinds source d kinds_of.Datum valid content is fits =
    data_stays kinds source d valid content (ap rule_of is)
data_round kinds source d (kinds_of.Opaque rule) valid content is fits =
    data_turned kinds source d rule valid content (ap rule_of is) fits

-- ---- each submessage

pub round : (kinds : List WriterKind) (source : GuidPrefix) (s : Submessage) → IsSpellable s → Fits kinds source s
    → Round kinds source (spelled s) (IsWithin kinds source s) (IsShort kinds source s)
round kinds source submessages.Pad valid fits =
    passed_on kinds source 1 (flags_of submessages.Pad) (body_of submessages.Pad) refl refl
    (pad_within (length (body_of submessages.Pad)))
round kinds source (submessages.InfoDst prefix) valid fits =
    passed_on kinds source 14 1 (body_of (submessages.InfoDst prefix)) refl refl
    (positive_within 14 (length (body_of (submessages.InfoDst prefix)))
    (aligned_positive prefix.0 (omega (arith, valid))))
round kinds source (submessages.InfoTs stamp) valid fits =
    passed_on kinds source 9 (flags_of (submessages.InfoTs stamp)) (body_of (submessages.InfoTs stamp)) refl refl
    (stamp_within (length (body_of (submessages.InfoTs stamp))))
round kinds source (submessages.Heartbeat h) valid fits =
    let s = submessages.Heartbeat h in
    passed_on kinds source 7 (flags_of (submessages.Heartbeat h)) (body_of (submessages.Heartbeat h)) refl refl
    (positive_within 7 (length (body_of (submessages.Heartbeat h)))
    (aligned_positive (heartbeat_text Little h) (omega (
      arith,
      length-append
          (h.reader_id.0 ++ h.writer_id.0 ++ sn_text Little h.first_sn ++ sn_text Little h.last_sn)
          (count_text Little h.count),
    ))))
round kinds source (submessages.Data d) valid fits =
    data_round kinds source d (kind_of kinds source d.writer_id) valid.0 valid.1 refl fits
round kinds source (submessages.AckNack a) valid fits =
    passed_on kinds source 6 (flags_of (submessages.AckNack a)) (body_of (submessages.AckNack a)) refl refl
    (positive_within 6 (length (body_of (submessages.AckNack a)))
    (aligned_positive (text_of_acknack a) (omega (
      arith,
      valid.0.reader,
      length-append (a.reader_id.0 ++ a.writer_id.0) (text_of_set a.reader_sn_state ++ count_text Little a.count),
      length-append a.reader_id.0 a.writer_id.0,
    ))))
round kinds source (submessages.Gap g) valid fits =
    passed_on kinds source 8 (flags_of (submessages.Gap g)) (body_of (submessages.Gap g)) refl refl
    (positive_within 8 (length (body_of (submessages.Gap g)))
    (aligned_positive (gap_head Little g ++ text_of_set g.gap_list) (omega (
      arith,
      length-append (gap_head Little g) (text_of_set g.gap_list),
      text_of_set_len g.gap_list,
    ))))
round kinds source (submessages.Other id) valid fits = absurd valid
