-- The octets of key fields, while they are put together.
use Rattle.std.proofs.Common.{◌≡◌, ◌≤◌, ◌<◌, ℕ, ◌+◌, ◌-◌, ◌%◌, min, Bool, true, false, ltb, List, [], ◌∷◌, ◌++◌, length, take, drop, replicate, Option, None, Some, refl, sym, ap, ◌∙◌, append_assoc, arith}
use Rattle.std.proofs.lemmas.Bool.{lt-ltb, le-ltb, ltb-false}
use Rattle.std.proofs.lemmas.List.{same_lists, places, take-append-le, length-append, length-drop}
use borrow.Rule.Slice.PartMut.{put_mid}
use Rattle.md5.specs.Md5.{md5}
use Rattle.dds_base.specs.declared.endianness.Endianness.{Endianness}
use Rattle.dds_base.specs.Fields.{octets_at}
use Rattle.rtps_adapter.specs.declared.key.KeyOctets.{KeyOctets}
use Rattle.rtps_adapter.specs.declared.kinds.Encoding.{Encoding}
use Rattle.rtps_adapter.specs.declared.kinds.KeyField.{KeyField}
use Rattle.rtps_adapter.specs.KeyOctets.{AreSoFar, Continues, next_in}
use Rattle.rtps_adapter.specs.Keys.{size_of, alignment_of, aligned_to, number_in, fields_in, key_of_octets, order_in, key_by_fields}
use Rattle.rtps_adapter.specs.declared.kinds.KeyRule.{KeyRule}
use Rattle.rtps_adapter.specs.declared.kinds.KeyRule.TheVariants.{Keyless, Fields, ParameterList}
use Rattle.rtps_adapter.specs.Payloads.{inward_payload, value_at}
use Rattle.rtps_adapter.specs.Refused.{ShortCantBeTurned, PaddingCantBeTurned, FieldsHaveToBeThere}

-- no octet more has a place
pub kept_full : (most : ℕ) (s o : List ℕ) → most ≤ length s
    → take most (s ++ replicate most 0) ≡ take most ((s ++ o) ++ replicate most 0)
kept_full most s o full =
    take-append-le most s (replicate most 0) full
    ∙ sym (ap (take most) (append_assoc s o (replicate most 0)) ∙ take-append-le most s (o ++ replicate most 0) full)

-- as many of the octets as have a place
pub kept_more : (most : ℕ) (s o : List ℕ) (k : ℕ) → length s < most → k ≡ min (length o) (most - length s)
    → put_mid (length s) k (take most (s ++ replicate most 0)) (take k o) ≡ take most ((s ++ o) ++ replicate most 0)
kept_more most s o k few is =
    same_lists _ _ (grind (arith, places)) (λ j d h. grind (arith, places))

-- sixteen octets at most
pub key_short : (octets : List ℕ) → length octets ≤ 16
    → record { 0 = take 16 (octets ++ replicate 16 0) } ≡ key_of_octets octets
key_short octets few =
    let many : ltb 16 (length octets) ≡ false = le-ltb 16 (length octets) few in
    rw (many, first_sixteen 16 octets few) refl
  where
    first_sixteen : (most : ℕ) (octets : List ℕ) → length octets ≤ most
        → take most (octets ++ replicate most 0) ≡ octets ++ replicate (most - length octets) 0
    first_sixteen most octets few = same_lists _ _ (grind (arith, places)) (λ j d h. grind (arith, places))

pub key_long : (octets : List ℕ) → 16 < length octets → record { 0 = md5 octets } ≡ key_of_octets octets
key_long octets many = rw (lt-ltb 16 (length octets) many) refl

-- a number that ends behind the body
pub number_beyond : (order : Endianness) (place size : ℕ) (body : List ℕ) → length body < place + size
    → number_in order place size body ≡ None
unfolding number_in octets_at
number_beyond order place size body past = by_test (ltb (length body) place) refl
  where
    by_test : (b : Bool) → ltb (length body) place ≡ b → number_in order place size body ≡ None
    by_test true e = rw e refl
    by_test false e =
        let short : ltb (length (drop place body)) size ≡ true =
        lt-ltb (length (drop place body)) size (omega (arith, past, length-drop place body, ltb-false (length body) place e)) in
        rw (e, short) refl

-- ---- one field after the other

-- the key fields so far, before those that are left
pub record GoesOn (is_key : Bool) (encoding : Encoding) (order : Endianness) (body : List ℕ) (all left : List KeyField)
    (k : KeyOctets) : Type 0 where
  pub octets : List ℕ
  pub are : AreSoFar k octets
  pub same : fields_in is_key encoding order body octets left ≡ fields_in is_key encoding order body [] all

step : (is_key : Bool) (encoding : Encoding) (order : Endianness) (body : List ℕ) (f : KeyField)
    (octets x : List ℕ) (left : List KeyField) → next_in is_key encoding order body f octets ≡ Some x
    → fields_in is_key encoding order body octets (f ∷ left)
    ≡ fields_in is_key encoding order body (aligned_to (alignment_of encoding f.size) octets ++ x) left
unfolding fields_in
step is_key encoding order body f octets x left found = rw found refl

pub goes_more : (is_key : Bool) (encoding : Encoding) (order : Endianness) (body : List ℕ) (all left : List KeyField)
    (f : KeyField) (old new : KeyOctets) (has : Bool) → has ≡ true
    → (g : GoesOn is_key encoding order body all (f ∷ left) old)
    → Continues is_key encoding order body f g.octets new has → GoesOn is_key encoding order body all left new
goes_more is_key encoding order body all left f old new true is g (x, found, are) = record {
  octets = aligned_to (alignment_of encoding f.size) g.octets ++ x;
  are = are;
  same = sym (step is_key encoding order body f g.octets x left found) ∙ g.same;
}
goes_more is_key encoding order body all left f old new false is g on = absurd cc

pub goes_nowhere : (is_key : Bool) (encoding : Encoding) (order : Endianness) (body : List ℕ) (all left : List KeyField)
    (f : KeyField) (old new : KeyOctets) (has : Bool) → has ≡ false
    → (g : GoesOn is_key encoding order body all (f ∷ left) old)
    → Continues is_key encoding order body f g.octets new has → fields_in is_key encoding order body [] all ≡ None
unfolding fields_in
goes_nowhere is_key encoding order body all left f old new true is g on = absurd cc
goes_nowhere is_key encoding order body all left f old new false is g none =
    sym g.same ∙ rw none refl

pub goes_to_end : (is_key : Bool) (encoding : Encoding) (order : Endianness) (body : List ℕ) (all : List KeyField)
    (k : KeyOctets) → GoesOn is_key encoding order body all [] k
    → (octets : List ℕ) × (fields_in is_key encoding order body [] all ≡ Some octets) × AreSoFar k octets
unfolding fields_in
goes_to_end is_key encoding order body all k g = (g.octets, sym g.same, g.are)

-- ---- what is not there

fields_beyond : (before after : List KeyField) (f : KeyField) (encoding : Encoding) (order : Endianness)
    (body octets : List ℕ) → length body < f.place + size_of f.size
    → fields_in false encoding order body octets (before ++ f ∷ after) ≡ None
unfolding fields_in
fields_beyond [] after f encoding order body octets past =
    rw (number_beyond order f.place (size_of f.size) body past) refl
fields_beyond (g ∷ before) after f encoding order body octets past =
    by_number (number_in order g.place (size_of g.size) body) refl (λ x.
    fields_beyond before after f encoding order body (aligned_to (alignment_of encoding g.size) octets ++ x) past)
  where
    by_number : (o : Option (List ℕ)) → number_in order g.place (size_of g.size) body ≡ o
        → ((x : List ℕ) → fields_in false encoding order body
        (aligned_to (alignment_of encoding g.size) octets ++ x) (before ++ f ∷ after) ≡ None)
        → fields_in false encoding order body octets (g ∷ before ++ f ∷ after) ≡ None
    by_number None e none = rw e refl
    by_number (Some x) e none = rw e (none x)

no_key_beyond : (encoding : Encoding) (before after : List KeyField) (f : KeyField) (a b c d : ℕ) (body : List ℕ)
    → length body < f.place + size_of f.size
    → key_by_fields false encoding (before ++ f ∷ after) (a ∷ b ∷ c ∷ d ∷ body) ≡ None
unfolding key_by_fields
no_key_beyond encoding before after f a b c d body past = by_order (order_in encoding a b) refl
  where
    by_order : (o : Option Endianness) → order_in encoding a b ≡ o
        → key_by_fields false encoding (before ++ f ∷ after) (a ∷ b ∷ c ∷ d ∷ body) ≡ None
    by_order None e = rw e refl
    by_order (Some order) e = rw (e, fields_beyond before after f encoding order body [] past) refl

pub fields_stay : FieldsHaveToBeThere
unfolding inward_payload
fields_stay Keyless before after f payload a b c d body parts value past =
    absurd (omega (arith, ap length parts, length-append before (f ∷ after)))
fields_stay (Fields encoding fields) before after f payload a b c d body parts value past =
    rw (value, parts, no_key_beyond encoding before after f a b c d body past) refl
fields_stay ParameterList before after f payload a b c d body parts value past =
    absurd (omega (arith, ap length parts, length-append before (f ∷ after)))

-- ---- what has no value

no_value : (rule : KeyRule) (is_key : Bool) (payload : List ℕ) → value_at payload ≡ None
    → inward_payload rule is_key payload ≡ None
unfolding inward_payload
no_value rule true payload e = rw e refl
no_value rule false payload e = rw e refl

pub short_stays : ShortCantBeTurned
unfolding value_at
short_stays rule is_key payload short = no_value rule is_key payload (none payload short)
  where
    none : (payload : List ℕ) → length payload < 4 → value_at payload ≡ None
    none [] short = refl
    none (a ∷ []) short = refl
    none (a ∷ b ∷ []) short = refl
    none (a ∷ b ∷ c ∷ []) short = refl
    none (a ∷ b ∷ c ∷ d ∷ body) short = absurd (omega (arith, short))

pub padding_stays : PaddingCantBeTurned
unfolding value_at
padding_stays rule is_key a b c d body short =
    no_value rule is_key (a ∷ b ∷ c ∷ d ∷ body) (rw (lt-ltb (length body) (d % 4) short) refl)
