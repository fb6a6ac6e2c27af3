-- What is read is a datum's bytes, and a datum's bytes are read.
use Rattle.std.proofs.Common.{◌≡◌, ℕ, zero, suc, ◌^◌, ◌<◌, false, cond, ltb, List, [], ◌∷◌, ◌++◌, length, Option, Some, None, refl, sym, ap, subst, ◌∙◌, append_assoc, arith}
use Rattle.std.specs.Int.{w32}
use Rattle.std.specs.Option.{option_map}
use Rattle.std.proofs.lemmas.Bool.{ltb-false, le-ltb}
use Rattle.std.proofs.lemmas.Option.{option_and_then_some}
use Rattle.dds_base.specs.declared.datum.Datum.{Datum}
use Rattle.dds_base.specs.declared.key.Key.{Key}
use Rattle.dds_base.specs.declared.endianness.Endianness.{Endianness}
use Rattle.dds_base.specs.declared.endianness.Endianness.TheVariants.{Big, Little}
use Rattle.dds_base.specs.Fields.{number, number_at, octets_at, ◌>>=◌}
use Rattle.dds_base.specs.DatumText.{representation, datum_text, ReadsDatum, ReadsKey}
use Rattle.dds_base.specs.DatumAt.{representation_at, key_at, key_form_at, datum_at}
use Rattle.dds_base.proofs.FieldLaws.{AreOctets, Takes, IsField, guard_some, some_is, field_u32, field_octets}

-- the order and the options that a representation shows
record Represents (bytes : List ℕ) (order : Endianness) (rest : List ℕ) : Type 0 where
  options : List ℕ
  two : length options ≡ 2
  parts : bytes ≡ representation order ++ options ++ rest
  octets : AreOctets rest

representation_takes : (bytes : List ℕ) (order : Endianness) (rest : List ℕ) → AreOctets bytes
    → representation_at bytes ≡ Some (order, rest) → Represents bytes order rest
unfolding representation_at
representation_takes (zero ∷ zero ∷ x ∷ y ∷ rest) order rest' octets e =
    subst (λ (p : Endianness × List ℕ). Represents (0 ∷ 0 ∷ x ∷ y ∷ rest) p.0 p.1)
    (some_is (Big, rest) (order, rest') e)
    (record { options = x ∷ y ∷ []; two = refl; parts = refl; octets = λ i. octets (suc (suc (suc (suc i)))) })
representation_takes (zero ∷ suc zero ∷ x ∷ y ∷ rest) order rest' octets e =
    subst (λ (p : Endianness × List ℕ). Represents (0 ∷ 1 ∷ x ∷ y ∷ rest) p.0 p.1)
    (some_is (Little, rest) (order, rest') e)
    (record { options = x ∷ y ∷ []; two = refl; parts = refl; octets = λ i. octets (suc (suc (suc (suc i)))) })
representation_takes _ order rest' octets e = absurd cc

representation_again : (order : Endianness) (options rest : List ℕ) → length options ≡ 2
    → representation_at (representation order ++ options ++ rest) ≡ Some (order, rest)
unfolding representation_at
representation_again Big (x ∷ y ∷ []) rest two = refl
representation_again Little (x ∷ y ∷ []) rest two = refl
representation_again order [] rest two = absurd (omega arith)
representation_again order (x ∷ []) rest two = absurd (omega arith)
representation_again order (x ∷ y ∷ z ∷ zs) rest two = absurd (omega arith)

key_takes : (bytes : List ℕ) (k : Key) (rest : List ℕ) → AreOctets bytes → key_at bytes ≡ Some (k, rest)
    → Takes bytes k.0 rest × (length k.0 ≡ 16)
unfolding key_at
key_takes bytes k rest octets e =
    option_and_then_some (λ x. Some (record { 0 = x.0 }, x.1)) (octets_at 16 bytes) (k, rest) e (λ x q r.
    let made : Key × List ℕ = (record { 0 = x.0 }, x.1) in
    subst (λ (p : Key × List ℕ). Takes bytes p.0.0 p.1 × (length p.0.0 ≡ 16)) (some_is made (k, rest) r)
    ((field_octets 16).takes bytes x.0 x.1 octets q))

key_again : (k : Key) (rest : List ℕ) → length k.0 ≡ 16 → key_at (k.0 ++ rest) ≡ Some (k, rest)
unfolding key_at
key_again k rest len = rw ((field_octets 16).again k.0 rest len) refl

pub field_key : IsField (λ k. k.0) (λ k. length k.0 ≡ 16) key_at
field_key = record { takes = key_takes; again = key_again }

pub key_form_found : (bytes : List ℕ) (k : Key) → AreOctets bytes → key_form_at bytes ≡ Some k → ReadsKey bytes k
unfolding key_form_at
key_form_found bytes k octets e =
    option_and_then_some (λ r. key_at r.1 >>= λ x. Some x.0) (representation_at bytes) k e (λ r q1 e1.
    let front = representation_takes bytes r.0 r.1 octets q1 in
    option_and_then_some (λ x. Some x.0) (key_at r.1) k e1 (λ x q2 e2.
    let t = key_takes r.1 x.0 x.1 front.octets q2 in
    subst (λ (y : Key). ReadsKey bytes y) (some_is x.0 k e2) (record {
      order = r.0;
      options = front.options;
      rest = x.1;
      two = front.two;
      valid = t.1;
      text =
          front.parts ∙ ap (λ (z : List ℕ). (representation r.0 ++ front.options) ++ z) t.0.parts
          ∙ sym (append_assoc (representation r.0 ++ front.options) x.0.0 x.1);
    })))

pub key_form_only : (bytes : List ℕ) (k : Key) → ReadsKey bytes k → key_form_at bytes ≡ Some k
unfolding key_form_at
key_form_only bytes k h =
    let regrouped : bytes ≡ representation h.order ++ h.options ++ (k.0 ++ h.rest) =
    h.text ∙ append_assoc (representation h.order ++ h.options) k.0 h.rest in
    ap key_form_at regrouped
    ∙ rw (representation_again h.order h.options (k.0 ++ h.rest) h.two, key_again k h.rest h.valid) refl

-- what the parts of a datum make, put one after another
datum_text_is : (order : Endianness) (options : List ℕ) (d : Datum) (bytes k n v rest : List ℕ)
    → bytes ≡ representation order ++ options ++ k → k ≡ d.key.0 ++ n → n ≡ number order w32 (length d.value) ++ v
    → v ≡ d.value ++ rest → bytes ≡ datum_text order options d ++ rest
datum_text_is order options d bytes k n v rest at_bytes at_k at_n at_v =
    at_bytes ∙ ap (λ (z : List ℕ). representation order ++ options ++ z)
    (at_k ∙ ap (λ (z : List ℕ). d.key.0 ++ z)
    (at_n ∙ ap (λ (z : List ℕ). number order w32 (length d.value) ++ z) at_v))
    ∙ regroup (representation order ++ options) d.key.0 (number order w32 (length d.value)) d.value rest
  where
    regroup : (h k n v rest : List ℕ) → h ++ (k ++ (n ++ (v ++ rest))) ≡ ((h ++ k) ++ n ++ v) ++ rest
    regroup h k n v rest = simp append_assoc

pub datum_found : (bytes : List ℕ) (d : Datum) → AreOctets bytes → datum_at bytes ≡ Some d → ReadsDatum bytes d
unfolding datum_at
datum_found bytes d octets e =
    option_and_then_some (λ r. key_at r.1 >>= λ k. number_at r.0 w32 k.1 >>= λ n. cond (ltb 65000 n.0) None
    (octets_at n.0 n.1) >>= λ v. Some (record { key = k.0; value = v.0 })) (representation_at bytes) d e (λ r q1 e1.
    let front = representation_takes bytes r.0 r.1 octets q1 in
    option_and_then_some (λ k. number_at r.0 w32 k.1 >>= λ n. cond (ltb 65000 n.0) None (octets_at n.0 n.1) >>= λ v. Some
    (record { key = k.0; value = v.0 })) (key_at r.1) d e1 (λ k q2 e2.
    let t0 = key_takes r.1 k.0 k.1 front.octets q2 in
    option_and_then_some (λ n. cond (ltb 65000 n.0) None (octets_at n.0 n.1) >>= λ v. Some
    (record { key = k.0; value = v.0 })) (number_at r.0 w32 k.1) d e2 (λ n q3 e3.
    let t1 = (field_u32 r.0).takes k.1 n.0 n.1 t0.0.octets q3 in
    option_and_then_some (λ v. Some (record { key = k.0; value = v.0 }))
    (cond (ltb 65000 n.0) None (octets_at n.0 n.1)) d e3 (λ v q4 e4.
    let g = guard_some (ltb 65000 n.0) (octets_at n.0 n.1) v q4 in
    let t2 = (field_octets n.0).takes n.1 v.0 v.1 t1.0.octets g.1 in
    let made : Datum = record { key = k.0; value = v.0 } in
    let len : n.0 ≡ length v.0 = sym t2.1 in
    subst (λ (x : Datum). ReadsDatum bytes x) (some_is made d e4) (record {
      order = r.0;
      options = front.options;
      rest = v.1;
      two = front.two;
      valid = record { key = t0.1; value = rw (← len) (ltb-false _ _ g.0) };
      text =
          datum_text_is r.0 front.options made bytes r.1 k.1 n.1 v.1 front.parts t0.0.parts
          (t1.0.parts ∙ ap (λ (m : ℕ). number r.0 w32 m ++ n.1) len) t2.0.parts;
    })))))

pub datum_only : (bytes : List ℕ) (d : Datum) → ReadsDatum bytes d → datum_at bytes ≡ Some d
unfolding datum_at
datum_only bytes d h =
    let regrouped : bytes ≡ representation h.order ++ h.options
    ++ (d.key.0 ++ (number h.order w32 (length d.value) ++ (d.value ++ h.rest))) = h.text
    ∙ regroup (representation h.order ++ h.options) d.key.0 (number h.order w32 (length d.value)) d.value h.rest in
    let small : ltb 65000 (length d.value) ≡ false = le-ltb _ _ h.valid.value in
    let wide : length d.value < 2 ^ 32 = omega (arith, h.valid.value) in
    ap datum_at regrouped
    ∙ rw (
      representation_again h.order h.options
          (d.key.0 ++ (number h.order w32 (length d.value) ++ (d.value ++ h.rest))) h.two,
      key_again d.key (number h.order w32 (length d.value) ++ (d.value ++ h.rest)) h.valid.key,
      (field_u32 h.order).again (length d.value) (d.value ++ h.rest) wide,
      small,
      (field_octets (length d.value)).again d.value h.rest refl,
    ) refl
  where
    regroup : (h k n v rest : List ℕ) → ((h ++ k) ++ n ++ v) ++ rest ≡ h ++ (k ++ (n ++ (v ++ rest)))
    regroup h k n v rest = simp append_assoc

-- ---- the key of a datum

key_of_read : (bytes : List ℕ) (k : Key) (o : Option Datum) → AreOctets bytes → datum_at bytes ≡ o
    → Some k ≡ option_map (λ (d : Datum). d.key) o → (value : List ℕ)
    × ReadsDatum bytes (record { key = k; value = value })
key_of_read bytes k None octets read e = absurd cc
key_of_read bytes k (Some d) octets read e = (
  d.value,
  subst (λ (x : Key). ReadsDatum bytes (record { key = x; value = d.value })) (sym (some_is k d.key e))
      (datum_found bytes d octets read),
)

pub datum_key_found : (bytes : List ℕ) (k : Key) → AreOctets bytes
    → Some k ≡ option_map (λ (d : Datum). d.key) (datum_at bytes)
    → (value : List ℕ) × ReadsDatum bytes (record { key = k; value = value })
datum_key_found bytes k octets e = key_of_read bytes k (datum_at bytes) octets refl e

pub datum_key_only : (bytes : List ℕ) (d : Datum) → ReadsDatum bytes d
    → option_map (λ (x : Datum). x.key) (datum_at bytes) ≡ Some d.key
datum_key_only bytes d reads = ap (option_map (λ (x : Datum). x.key)) (datum_only bytes d reads)
