-- Key fields that stand in a key, big-endian.
use Rattle.std.proofs.Common.{◌≡◌, ℕ, ◌-◌, ◌%◌, ◌≤◌, Bool, true, false, cond, ltb, List, [], ◌∷◌, ◌++◌, length, take, drop, replicate, Option, None, Some, IsTrue, ◌↔◌, refl, sym, ap, ◌∙◌, append_assoc, arith}
use Rattle.std.specs.Prelude.{is_some}
use Rattle.std.specs.Option.{option_map, option_or}
use Rattle.std.proofs.lemmas.Bool.{ltb-false, le-ltb}
use Rattle.std.proofs.lemmas.List.{append-nil, length-append, length-replicate, length-take-le, take-append-drop, take_at}
use Rattle.dds_base.specs.declared.endianness.Endianness.TheVariants.{Big}
use Rattle.dds_base.specs.declared.key.Key.{Key}
use Rattle.dds_base.specs.DatumAt.{key_at}
use Rattle.dds_base.specs.Fields.{octets_at, ◌>>=◌}
use Rattle.dds_base.specs.Happening.{same_key}
use Rattle.dds_base.proofs.FieldLaws.{bind_some, guard_some, some_is, field_octets}
use Rattle.dds_base.proofs.KeyLaws.{key-same, same_key-refl}
use Rattle.rtps_announcements.specs.ListAt.{value_in}
use Rattle.rtps_announcements.specs.Names.{pid_endpoint_guid, pid_participant_guid}
use Rattle.rtps_adapter.specs.declared.kinds.Encoding.{Encoding}
use Rattle.rtps_adapter.specs.declared.kinds.Encoding.TheVariants.{Cdr, Cdr2}
use Rattle.rtps_adapter.specs.declared.kinds.KeyField.{KeyField}
use Rattle.rtps_adapter.specs.Keys.{size_of, alignment_of, aligned_to, in_big_endian, number_in, fields_in, key_of_octets, order_in, representation_of, key_by_fields, own_octets, order_of_list, key_by_list, key_in}
use Rattle.rtps_adapter.specs.declared.kinds.KeyRule.{KeyRule}
use Rattle.rtps_adapter.specs.declared.kinds.KeyRule.TheVariants.{Keyless, Fields, ParameterList}
use Rattle.rtps_adapter.specs.Kinds.{no_key}
use Rattle.md5.proofs.StandardFacts.{length-md5}

-- ---- where a number stands

octets_parts : (n : ℕ) (bytes x rest : List ℕ) → octets_at n bytes ≡ Some (x, rest)
    → (bytes ≡ x ++ rest) × (length x ≡ n)
unfolding octets_at
octets_parts n bytes x rest e =
    let g = guard_some (ltb (length bytes) n) (Some (take n bytes, drop n bytes)) (x, rest) e in
    let made : List ℕ × List ℕ = (take n bytes, drop n bytes) in
    let is = some_is made (x, rest) g.1 in (
      sym (take-append-drop n bytes) ∙ ap (λ (p : List ℕ × List ℕ). p.0 ++ p.1) is,
      sym (ap (λ (p : List ℕ × List ℕ). length p.0) is) ∙ length-take-le n bytes (ltb-false (length bytes) n g.0),
    )

-- a number, behind other octets and before others
record Stands (place size : ℕ) (body x : List ℕ) : Type 0 where
  front : List ℕ
  rest : List ℕ
  parts : body ≡ front ++ (x ++ rest)
  place_is : length front ≡ place
  size_is : length x ≡ size

number_stands : (place size : ℕ) (body x : List ℕ) → number_in Big place size body ≡ Some x → Stands place size body x
unfolding number_in
number_stands place size body x e =
    let a =
    bind_some (octets_at place body) (λ from. octets_at size from.1 >>= λ y. Some (in_big_endian Big y.0)) x e in
    let b = bind_some (octets_at size a.0.1) (λ y. Some (in_big_endian Big y.0)) x a.2 in
    let is : b.0.0 ≡ x = some_is b.0.0 x b.2 in
    let p = octets_parts place body a.0.0 a.0.1 a.1 in
    let q = octets_parts size a.0.1 b.0.0 b.0.1 b.1 in
    record {
      front = a.0.0;
      rest = b.0.1;
      parts = p.0 ∙ ap (λ (z : List ℕ). a.0.0 ++ z) (q.0 ∙ ap (λ (z : List ℕ). z ++ b.0.1) is);
      place_is = p.1;
      size_is = sym (ap (λ (z : List ℕ). length z) is) ∙ q.1;
    }

number_here : (front x rest : List ℕ) (size : ℕ) → length x ≡ size
    → number_in Big (length front) size (front ++ (x ++ rest)) ≡ Some x
unfolding number_in
number_here front x rest size is =
    rw ((field_octets (length front)).again front (x ++ rest) refl, (field_octets size).again x rest is) refl

-- ---- the fields of a key form

-- the octets, aligned for a field
abbrev before : Encoding → KeyField → List ℕ → List ℕ
before encoding f octets = aligned_to (alignment_of encoding f.size) octets

-- one field, and those behind it
record Next (encoding : Encoding) (body octets : List ℕ) (f : KeyField) (fs : List KeyField) (out : List ℕ)
    : Type 0 where
  x : List ℕ
  here : number_in Big (length (before encoding f octets)) (size_of f.size) body ≡ Some x
  more : fields_in true encoding Big body (before encoding f octets ++ x) fs ≡ Some out

next : (encoding : Encoding) (body octets : List ℕ) (f : KeyField) (fs : List KeyField) (out : List ℕ)
    → fields_in true encoding Big body octets (f ∷ fs) ≡ Some out → Next encoding body octets f fs out
unfolding fields_in
next encoding body octets f fs out e =
    let a =
    bind_some (number_in Big (length (before encoding f octets)) (size_of f.size) body)
    (λ x. fields_in true encoding Big body (before encoding f octets ++ x) fs) out e in
    record { x = a.0; here = a.1; more = a.2 }

-- the octets come first
comes_first : (fs : List KeyField) (encoding : Encoding) (body octets out : List ℕ)
    → fields_in true encoding Big body octets fs ≡ Some out → (more : List ℕ) × (out ≡ octets ++ more)
unfolding fields_in
comes_first [] encoding body octets out e = ([], sym (some_is octets out e) ∙ sym (append-nil octets))
comes_first (f ∷ fs) encoding body octets out e =
    let n = next encoding body octets f fs out e in
    let m = comes_first fs encoding body (before encoding f octets ++ n.x) out n.more in
    let zeros : List ℕ = replicate
    ((alignment_of encoding f.size - length octets % alignment_of encoding f.size) % alignment_of encoding f.size) 0 in
    (zeros ++ (n.x ++ m.0), m.1 ∙ regroup octets zeros n.x m.0)
  where
    regroup : (a b c d : List ℕ) → ((a ++ b) ++ c) ++ d ≡ a ++ (b ++ (c ++ d))
    regroup a b c d = simp append_assoc

-- There are no more than the body has.
fields_within : (fs : List KeyField) (encoding : Encoding) (body octets out : List ℕ)
    → fields_in true encoding Big body octets fs ≡ Some out → length octets ≤ length body → length out ≤ length body
unfolding fields_in
fields_within [] encoding body octets out e le = omega (arith, le, ap length (some_is octets out e))
fields_within (f ∷ fs) encoding body octets out e le =
    let n = next encoding body octets f fs out e in
    let s = number_stands (length (before encoding f octets)) (size_of f.size) body n.x n.here in
    fields_within fs encoding body (before encoding f octets ++ n.x) out n.more (omega (
      arith,
      ap length s.parts,
      length-append s.front (n.x ++ s.rest),
      length-append n.x s.rest,
      length-append (before encoding f octets) n.x,
      s.place_is,
    ))

-- read again from their own octets they are the same
pub fields_again : (fs : List KeyField) (encoding : Encoding) (body octets out : List ℕ)
    → fields_in true encoding Big body octets fs ≡ Some out → fields_in true encoding Big out octets fs ≡ Some out
unfolding fields_in
fields_again [] encoding body octets out e = e
fields_again (f ∷ fs) encoding body octets out e =
    let n = next encoding body octets f fs out e in
    let s = number_stands (length (before encoding f octets)) (size_of f.size) body n.x n.here in
    let m = comes_first fs encoding body (before encoding f octets ++ n.x) out n.more in
    let parts : out ≡ before encoding f octets ++ (n.x ++ m.0) =
    m.1 ∙ append_assoc (before encoding f octets) n.x m.0 in
    let there : number_in Big (length (before encoding f octets)) (size_of f.size) out ≡ Some n.x =
    ap (number_in Big (length (before encoding f octets)) (size_of f.size)) parts
    ∙ number_here (before encoding f octets) n.x m.0 (size_of f.size) s.size_is in
    rw there (fields_again fs encoding body (before encoding f octets ++ n.x) out n.more)

-- ---- the key of its own octets

big_order : (encoding : Encoding) → order_in encoding 0 (representation_of encoding) ≡ Some Big
big_order Cdr = refl
big_order Cdr2 = refl

-- a key form that is big-endian
pub key_form_is : (encoding : Encoding) (fs : List KeyField) (body octets : List ℕ)
    → fields_in true encoding Big body [] fs ≡ Some octets
    → key_by_fields true encoding fs (0 ∷ representation_of encoding ∷ 0 ∷ 0 ∷ body) ≡ Some (key_of_octets octets)
unfolding key_by_fields
key_form_is encoding fs body octets e = rw (big_order encoding, e) refl

-- what a key says alone
pub record SaysItself (encoding : Encoding) (fs : List KeyField) (k : Key) : Type 0 where
  pub octets : List ℕ
  pub found : fields_in true encoding Big k.0 [] fs ≡ Some octets
  pub is : key_of_octets octets ≡ k
  pub own : own_octets encoding fs k ≡ Some octets

own_is : (encoding : Encoding) (fs : List KeyField) (k : Key) (octets : List ℕ)
    → fields_in true encoding Big k.0 [] fs ≡ Some octets → key_of_octets octets ≡ k
    → own_octets encoding fs k ≡ Some octets
unfolding own_octets
own_is encoding fs k octets e is = rw (e, is, same_key-refl k) refl

says_itself : (encoding : Encoding) (fs : List KeyField) (k : Key) (octets : List ℕ)
    → fields_in true encoding Big k.0 [] fs ≡ Some octets → key_of_octets octets ≡ k → SaysItself encoding fs k
says_itself encoding fs k octets e is =
    record { octets = octets; found = e; is = is; own = own_is encoding fs k octets e is }

pub alone_says : (encoding : Encoding) (fs : List KeyField) (k : Key)
    → key_by_fields true encoding fs (0 ∷ representation_of encoding ∷ 0 ∷ 0 ∷ k.0) ≡ Some k → SaysItself encoding fs k
unfolding key_by_fields
alone_says encoding fs k e =
    let known = rw (big_order encoding) at e in
    let a = bind_some (fields_in true encoding Big k.0 [] fs) (λ octets. Some (key_of_octets octets)) k known in
    says_itself encoding fs k a.0 a.1 (some_is (key_of_octets a.0) k a.2)

passed : {A : Type 0} (b : Bool) (o : Option A) (y : A) → cond b o None ≡ Some y → (b ≡ true) × (o ≡ Some y)
passed true o y e = (refl, e)
passed false o y e = absurd cc

pub own_says : (encoding : Encoding) (fs : List KeyField) (k : Key) (octets : List ℕ)
    → own_octets encoding fs k ≡ Some octets → SaysItself encoding fs k
unfolding own_octets
own_says encoding fs k octets e =
    let a =
    bind_some (fields_in true encoding Big k.0 [] fs)
    (λ octets. cond (same_key (key_of_octets octets) k) (Some octets) None) octets e in
    let p = passed (same_key (key_of_octets a.0) k) (Some a.0) octets a.2 in
    says_itself encoding fs k a.0 a.1 (key-same (key_of_octets a.0) k p.0)

-- sixteen octets at most are those that a key begins with
own_front : (octets : List ℕ) (k : Key) → length octets ≤ 16 → key_of_octets octets ≡ k
    → take (length octets) k.0 ≡ octets
own_front octets k few is =
    let short : ltb 16 (length octets) ≡ false = le-ltb 16 (length octets) few in
    let made : k.0 ≡ octets ++ replicate (16 - length octets) 0 =
    sym (ap (λ (z : Key). z.0) is) ∙ rw short refl in
    rw made (take_at octets (replicate (16 - length octets) 0) (length octets) refl)

pub own_few : (encoding : Encoding) (fs : List KeyField) (k : Key) (octets : List ℕ) → length k.0 ≡ 16
    → fields_in true encoding Big k.0 [] fs ≡ Some octets → length octets ≤ 16
own_few encoding fs k octets len e =
    omega (arith, len, fields_within fs encoding k.0 [] octets e (omega arith))

pub own_some : (encoding : Encoding) (fs : List KeyField) (k : Key) (octets : List ℕ) → length k.0 ≡ 16
    → fields_in true encoding Big k.0 [] fs ≡ Some octets → key_of_octets octets ≡ k
    → Some (take (length octets) k.0) ≡ own_octets encoding fs k
own_some encoding fs k octets len e is =
    ap Some (own_front octets k (own_few encoding fs k octets len e) is) ∙ sym (own_is encoding fs k octets e is)

pub own_none : (encoding : Encoding) (fs : List KeyField) (k : Key) (octets : List ℕ)
    → fields_in true encoding Big k.0 [] fs ≡ Some octets → same_key (key_of_octets octets) k ≡ false
    → own_octets encoding fs k ≡ None
unfolding own_octets
own_none encoding fs k octets e other = rw (e, other) refl

-- whether a key says itself, by how many octets its fields take
pub says_it : (encoding : Encoding) (fs : List KeyField) (k : Key) (o : Option ℕ) (has : Bool)
    → option_map (λ (n : ℕ). take n k.0) o ≡ own_octets encoding fs k → has ≡ is_some o
    → IsTrue has ↔ (key_by_fields true encoding fs (0 ∷ representation_of encoding ∷ 0 ∷ 0 ∷ k.0) ≡ Some k)
says_it encoding fs k None has e is =
    (λ t. absurd cc, λ alone. let s = alone_says encoding fs k alone in let own = s.own in absurd cc)
says_it encoding fs k (Some n) has e is = (
  λ t.
      let s = own_says encoding fs k (take n k.0) (sym e) in
      key_form_is encoding fs k.0 s.octets s.found ∙ ap Some s.is,
  λ alone. is,
)

-- ---- how long a key is

octets_long : (long : Bool) (octets : List ℕ) → ltb 16 (length octets) ≡ long → length (key_of_octets octets).0 ≡ 16
octets_long true octets e = rw e (length-md5 octets)
octets_long false octets e =
    rw e (omega (
      arith,
      ltb-false 16 (length octets) e,
      length-append octets (replicate (16 - length octets) 0),
      length-replicate {A = ℕ} (16 - length octets) 0,
    ))

fields_long : (is_key : Bool) (encoding : Encoding) (fs : List KeyField) (value : List ℕ) (k : Key)
    → key_by_fields is_key encoding fs value ≡ Some k → length k.0 ≡ 16
unfolding key_by_fields
fields_long is_key encoding fs (a ∷ b ∷ c ∷ d ∷ body) k e =
    let p =
    bind_some (order_in encoding a b)
    (λ order. fields_in is_key encoding order body [] fs >>= λ octets. Some (key_of_octets octets)) k e in
    let q = bind_some (fields_in is_key encoding p.0 body [] fs) (λ octets. Some (key_of_octets octets)) k p.2 in
    sym (ap (λ (z : Key). length z.0) (some_is (key_of_octets q.0) k q.2))
    ∙ octets_long (ltb 16 (length q.0)) q.0 refl
fields_long is_key encoding fs _ k e = absurd cc

list_long : (value : List ℕ) (k : Key) → key_by_list value ≡ Some k → length k.0 ≡ 16
unfolding key_by_list key_at
list_long (a ∷ b ∷ c ∷ d ∷ body) k e =
    let p =
    bind_some (order_of_list a b)
    (λ order. option_or (value_in order body pid_endpoint_guid) (value_in order body pid_participant_guid)
    >>= λ guid. key_at guid >>= λ x. Some x.0) k e in
    let q =
    bind_some (option_or (value_in p.0 body pid_endpoint_guid) (value_in p.0 body pid_participant_guid))
    (λ guid. key_at guid >>= λ x. Some x.0) k p.2 in
    let r = bind_some (key_at q.0) (λ x. Some x.0) k q.2 in
    let s = bind_some (octets_at 16 q.0) (λ x. Some (record { 0 = x.0 }, x.1)) r.0 r.1 in
    sym (ap (λ (z : Key). length z.0) (some_is r.0.0 k r.2))
    ∙ (sym (ap (λ (z : Key × List ℕ). length z.0.0) (some_is (record { 0 = s.0.0 }, s.0.1) r.0 s.2))
    ∙ (octets_parts 16 q.0 s.0.0 s.0.1 s.1).1)
list_long _ k e = absurd cc

-- a key that a rule finds has sixteen octets
pub key_is_long : (is_key : Bool) (rule : KeyRule) (value : List ℕ) (k : Key) → key_in is_key rule value ≡ Some k
    → length k.0 ≡ 16
key_is_long is_key Keyless value k e = sym (ap (λ (z : Key). length z.0) (some_is no_key k e))
key_is_long is_key (Fields encoding fields) value k e = fields_long is_key encoding fields.now value k e
key_is_long is_key ParameterList value k e = list_long value k e
