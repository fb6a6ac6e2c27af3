-- The GAP of one number.
use Rattle.std.proofs.Common.{◌≡◌, ℕ, ◌+◌, ◌≤◌, ◌<◌, ◌^◌, Bool, true, false, cond, ◌||◌, ltb, List, [], ◌∷◌, ◌++◌, length, None, Some, refl, sym, ap, subst, ◌∙◌, append_assoc, arith}
use Rattle.std.specs.Int.{w16}
use Rattle.std.proofs.lemmas.Bool.{le-ltb}
use Rattle.std.proofs.lemmas.List.{append-nil, length-append}
use Rattle.dds_base.specs.declared.endianness.Endianness.TheVariants.{Little}
use Rattle.dds_base.specs.declared.guid.EntityId.{EntityId}
use Rattle.rtps_wire.specs.Fields.{order_of, sn_text}
use Rattle.rtps_wire.specs.Frames.{frame_text}
use Rattle.rtps_wire.specs.Gap.{text_of_gap}
use Rattle.rtps_wire.specs.Sets.{words_of, IsSet, set_field_of, text_of_set}
use Rattle.rtps_wire.specs.Submessages.{Reads}
use Rattle.rtps_wire.specs.Data.{data_head}
use Rattle.rtps_wire.specs.declared.submessage.Submessage.TheVariants as submessages
use Rattle.rtps_wire.proofs.SetSpelling.{set_field_valid, set_again}
use Rattle.rtps_wire.proofs.WireFields.{len_16, field_entity_id, field_sn}
use Rattle.rtps_sets.specs.NumberSet.{empty_from}
use Rattle.dds_base.specs.declared.guid.GuidPrefix.{GuidPrefix}
use Rattle.dds_base.specs.Fields.{number}
use Rattle.dds_base.proofs.FieldLaws.{some_is, field_octets}
use Rattle.rtps_adapter.specs.declared.kinds.WriterKind.{WriterKind}
use Rattle.rtps_adapter.specs.Turning.{Piece}
use Rattle.rtps_adapter.specs.Filling.{named_at, is_lost, lost, gap_of, gap_piece, filled}
use Rattle.rtps_adapter.specs.Passed.{NumbersArePassed}

-- its octets
pub gap_text : (reader writer : EntityId) (sn : ℕ) → text_of_gap (gap_of reader writer sn)
    ≡ reader.0 ++ writer.0 ++ sn_text Little sn ++ (sn_text Little (sn + 1) ++ (0 ∷ 0 ∷ 0 ∷ 0 ∷ []))
unfolding words_of
gap_text reader writer sn = refl

-- how many there are
pub gap_long : (reader writer : EntityId) (sn : ℕ) → length reader.0 ≡ 4 → length writer.0 ≡ 4
    → length (text_of_gap (gap_of reader writer sn)) ≡ 28
gap_long reader writer sn r w = rw (gap_text reader writer sn) (simp length-append (omega (arith, r, w)))

-- with the header of a submessage
pub gap_frame : (reader writer : EntityId) (sn : ℕ) → length reader.0 ≡ 4 → length writer.0 ≡ 4
    → (gap_piece (gap_of reader writer sn)).text ≡ frame_text 8 1 28 [] ++ text_of_gap (gap_of reader writer sn)
gap_frame reader writer sn r w = rw (gap_long reader writer sn r w) refl

-- the octets that are put one after the other
pub five_put : (reader writer : EntityId) (sn : ℕ) (out a b first second third fourth fifth : List ℕ) → a ≡ reader.0
    → b ≡ writer.0 → first ≡ out ++ a → second ≡ first ++ b → third ≡ second ++ sn_text Little sn
    → fourth ≡ third ++ sn_text Little (sn + 1) → fifth ≡ fourth ++ 0 ∷ 0 ∷ 0 ∷ 0 ∷ []
    → fifth ≡ out ++ text_of_gap (gap_of reader writer sn)
five_put reader writer sn out a b first second third fourth fifth a_is b_is e f g h i =
    rw (gap_text reader writer sn, i, h, g, f, e, a_is, b_is)
    (regroup out reader.0 writer.0 (sn_text Little sn) (sn_text Little (sn + 1)) (0 ∷ 0 ∷ 0 ∷ 0 ∷ []))
  where
    regroup : (o a b c d e : List ℕ) → ((((o ++ a) ++ b) ++ c) ++ d) ++ e ≡ o ++ (a ++ b ++ c ++ (d ++ e))
    regroup o a b c d e = simp append_assoc

-- the GAP, behind its header
pub gap_put : (reader writer : EntityId) (sn : ℕ) (old begun new : List ℕ) → length reader.0 ≡ 4 → length writer.0 ≡ 4
    → length old + 32 ≤ 65507 → begun ≡ old ++ frame_text 8 1 28 []
    → new ≡ begun ++ text_of_gap (gap_of reader writer sn)
    → (new ≡ old ++ (gap_piece (gap_of reader writer sn)).text) × (length new ≤ 65507)
gap_put reader writer sn old begun new r w room e f =
    let text = text_of_gap (gap_of reader writer sn) in
    let whole : new ≡ old ++ (frame_text 8 1 28 [] ++ text_of_gap (gap_of reader writer sn)) =
    f ∙ ap (λ (z : List ℕ). z ++ text) e ∙ append_assoc old (frame_text 8 1 28 []) text in (
      whole ∙ ap (λ (z : List ℕ). old ++ z) (sym (gap_frame reader writer sn r w)),
      omega (
        arith,
        room,
        ap length whole,
        length-append old (frame_text 8 1 28 [] ++ text),
        length-append (frame_text 8 1 28 []) text,
        gap_long reader writer sn r w,
      ),
    )

-- ---- a GAP is read

empty_is_set : (base : ℕ) → 1 ≤ base → base ≤ 2 ^ 62 → IsSet (empty_from base)
empty_is_set base first small = record { first = first; small = small; places = refl }

gap_read : (reader writer : EntityId) (sn : ℕ) → length reader.0 ≡ 4 → length writer.0 ≡ 4 → 1 ≤ sn → sn < 2 ^ 62
    → Reads 8 1 (text_of_gap (gap_of reader writer sn)) (submessages.Gap (gap_of reader writer sn))
gap_read reader writer sn r w first small =
    let s = empty_from (sn + 1) in
    let valid = empty_is_set (sn + 1) (omega arith) (omega (arith, small)) in
    record {
      kind = refl;
      flags_are = tt;
      body_is =
          record {
            from_set = text_of_set (empty_from (sn + 1));
            rest = [];
            head = refl;
            set =
                record {
                  field = set_field_of (empty_from (sn + 1));
                  valid = set_field_valid s valid;
                  text = sym (append-nil (text_of_set (empty_from (sn + 1))));
                  set = set_again s valid;
                };
          };
      valid = record { reader = r; writer = w; first = first; small = omega (arith, small) };
    }

-- ---- what a head names

named_is : (flags extra way : ℕ) (reader writer : EntityId) (sn : ℕ) (rest : List ℕ) → length reader.0 ≡ 4
    → length writer.0 ≡ 4 → sn ≤ 2 ^ 62
    → named_at flags (data_head (order_of flags) extra way reader writer sn ++ rest)
    ≡ cond (ltb sn 1 || ltb (2 ^ 62) (sn + 1)) None (Some (reader, writer, sn))
unfolding named_at
named_is flags extra way reader writer sn rest r w small =
    let order = order_of flags in
    let front : List ℕ = number (order_of flags) w16 extra ++ number (order_of flags) w16 way in
    let four : length (number (order_of flags) w16 extra ++ number (order_of flags) w16 way) ≡ 4 =
    omega (arith, length-append (number order w16 extra) (number order w16 way), len_16 order extra, len_16 order way) in
    ap (named_at flags) (regroup front reader.0 writer.0 (sn_text (order_of flags) sn) rest)
    ∙ rw (
      (field_octets 4).again (number (order_of flags) w16 extra ++ number (order_of flags) w16 way)
          (reader.0 ++ (writer.0 ++ (sn_text (order_of flags) sn ++ rest))) four,
      field_entity_id.again reader (writer.0 ++ (sn_text (order_of flags) sn ++ rest)) r,
      field_entity_id.again writer (sn_text (order_of flags) sn ++ rest) w,
      (field_sn (order_of flags)).again sn rest small,
    ) refl
  where
    regroup : (a b c d e : List ℕ) → (a ++ b ++ c ++ d) ++ e ≡ a ++ (b ++ (c ++ (d ++ e)))
    regroup a b c d e = simp append_assoc

named_again : (flags extra way : ℕ) (reader writer : EntityId) (sn : ℕ) (rest : List ℕ) → length reader.0 ≡ 4
    → length writer.0 ≡ 4 → 1 ≤ sn → sn < 2 ^ 62
    → named_at flags (data_head (order_of flags) extra way reader writer sn ++ rest) ≡ Some (reader, writer, sn)
named_again flags extra way reader writer sn rest r w first small =
    let low : ltb sn 1 ≡ false = le-ltb sn 1 first in
    let high : ltb (2 ^ 62) (sn + 1) ≡ false = le-ltb (2 ^ 62) (sn + 1) (omega (arith, small)) in
    named_is flags extra way reader writer sn rest r w (omega (arith, small)) ∙ rw (low, high) refl

-- whose number it is
pub named_writer : (flags extra way : ℕ) (reader writer : EntityId) (sn : ℕ) (rest : List ℕ)
    (x : EntityId × EntityId × ℕ) → length reader.0 ≡ 4 → length writer.0 ≡ 4 → sn ≤ 2 ^ 62
    → named_at flags (data_head (order_of flags) extra way reader writer sn ++ rest) ≡ Some x → x.1 ≡ writer
named_writer flags extra way reader writer sn rest x r w small e =
    by_test (ltb sn 1 || ltb (2 ^ 62) (sn + 1)) (sym (named_is flags extra way reader writer sn rest r w small) ∙ e)
  where
    by_test : (b : Bool) → cond b None (Some (reader, writer, sn)) ≡ Some x → x.1 ≡ writer
    by_test true e = absurd cc
    by_test false e =
        let made : EntityId × EntityId × ℕ = (reader, writer, sn) in
        ap (λ (z : EntityId × EntityId × ℕ). z.1) (sym (some_is made x e))

lost_is : (kinds : List WriterKind) (source : GuidPrefix) (id flags : ℕ) (body : List ℕ) (reader writer : EntityId) (sn : ℕ)
    → named_at flags body ≡ Some (reader, writer, sn) → is_lost kinds source writer id flags body ≡ true
    → lost kinds source id flags body ≡ Some (gap_of reader writer sn)
unfolding lost
lost_is kinds source id flags body reader writer sn named is = rw (named, is) refl

pub numbers_are_passed : NumbersArePassed
numbers_are_passed kinds source p reader writer sn n is =
    let named : named_at p.flags p.body ≡ Some (reader, writer, sn) =
    ap (named_at p.flags) n.text
    ∙ named_again p.flags n.extra n.way reader writer sn n.rest n.reader_is n.writer_is n.first n.small in
    let found = lost_is kinds source p.id p.flags p.body reader writer sn named is in
    let filled_is : filled kinds source p ≡ gap_piece (gap_of reader writer sn) = rw found refl in
    subst (λ (q : Piece). Reads q.id q.flags q.body (submessages.Gap (gap_of reader writer sn))) (sym filled_is)
    (gap_read reader writer sn n.reader_is n.writer_is n.first n.small)
