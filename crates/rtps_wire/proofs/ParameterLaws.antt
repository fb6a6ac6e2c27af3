-- The parameters that are read are those that stand there, and those that stand there are read.
use Rattle.std.proofs.Common.{◌≡◌, ◌≢◌, ℕ, zero, suc, ◌%◌, ◌^◌, ◌<◌, Bool, true, false, cond, eqb, List, [], ◌∷◌, ◌++◌, length, Option, Some, None, refl, sym, ap, subst, ◌∙◌, append_assoc, arith, ◌⊎◌, inl, inr, eq-eqb, take, drop, ltb, ℤ, pos}
use Rattle.std.specs.Prelude.{slice_index, unwrap_or, FitsSigned}
use Rattle.std.specs.Option.{option_or, option_map}
use Rattle.std.specs.Int.{w16, w32, cast_signed, cast_unsigned}
use Rattle.std.proofs.lemmas.Bool.{eqb-true, eqb-false, ne_eqb, le-ltb}
use Rattle.std.proofs.lemmas.List.{length-append, append-nil, take_at}
use Rattle.std.proofs.lemmas.Option.{option_and_then_some}
use Rattle.dds_base.specs.declared.endianness.Endianness.{Endianness}
use Rattle.dds_base.specs.declared.key.Key.{Key}
use Rattle.dds_base.specs.Fields.{number, number_of, number_at, octets_at, ◌>>=◌}
use Rattle.dds_base.specs.DatumAt.{key_at}
use Rattle.dds_base.proofs.FieldLaws.{AreOctets, AreOctets-take, cond_is, some_is, field_u16, field_octets}
use Rattle.dds_base.proofs.DatumLaws.{field_key}
use Rattle.rtps_wire.specs.declared.parameters.Parameters.{Parameters}
use Rattle.rtps_wire.specs.Parameters.{Parameter, parameter_text, IsParameter, ReadsParameters, parameter_value}
use Rattle.rtps_wire.specs.ParametersAt.{parameter_at, noted_at, parameters_from, parameters_at}
use Rattle.rtps_wire.specs.Fields.{count_text}
use Rattle.rtps_wire.specs.FieldAt.{count_at}
use Rattle.rtps_wire.proofs.WireFields.{len_16, len_32, field_count}

-- ---- what parameters say

abbrev key_seen : List ℕ → Key
key_seen value = record { 0 = value }

abbrev last_octet : List ℕ → ℕ
last_octet value = slice_index value 3

abbrev strength_seen : Endianness → List ℕ → ℤ
strength_seen order value = (unwrap_or (count_at order value) (pos 0, [])).0

-- what was found before, or else what these say
abbrev pub summed : Endianness → Parameters → List Parameter → Parameters
summed order found ps =
    record {
      key_hash = option_or found.key_hash
          (option_map key_seen (parameter_value 112 ps));
      status = option_or found.status
          (option_map last_octet (parameter_value 113 ps));
      strength = option_or found.strength
          (option_map (strength_seen order) (parameter_value 6 ps));
    }

parameters_are : (a b : Option Key) (c d : Option ℕ) (e f : Option ℤ) → a ≡ b → c ≡ d → e ≡ f
    → ◌≡◌ {A = Parameters}
    (record { key_hash = a; status = c; strength = e }) (record { key_hash = b; status = d; strength = f })
parameters_are a b c d e f x y z = cc

or_none : {A : Type 0} (a : Option A) → option_or a None ≡ a
or_none None = refl
or_none (Some x) = refl

or_assoc : {A : Type 0} (a b c : Option A) → option_or (option_or a b) c ≡ option_or a (option_or b c)
or_assoc None b c = refl
or_assoc (Some x) b c = refl

-- the first, or else one of the others
first_or : {A B : Type 0} (f : A → B) (b : Bool) (v : A) (o : Option A)
    → option_map f (cond b (Some v) o) ≡ option_or (option_map f (cond b (Some v) None)) (option_map f o)
first_or f true v o = refl
first_or f false v o = refl

summed_none : (order : Endianness) (found : Parameters) → found ≡ summed order found []
summed_none order found =
    parameters_are found.key_hash _ found.status _ found.strength _ (sym (or_none found.key_hash))
    (sym (or_none found.status)) (sym (or_none found.strength))

-- of a repeated parameter the first counts
first_counts : {A : Type 0} (f : List ℕ → A) (found : Option A) (id : ℕ) (p : Parameter) (ps : List Parameter)
    → option_or (option_or found (option_map f (parameter_value id (p ∷ [])))) (option_map f (parameter_value id ps))
    ≡ option_or found (option_map f (parameter_value id (p ∷ ps)))
first_counts f found id p ps =
    or_assoc found (option_map f (parameter_value id (p ∷ []))) (option_map f (parameter_value id ps))
    ∙ ap (option_or found) (sym (first_or f (eqb p.id id) p.value (parameter_value id ps)))

summed_more : (order : Endianness) (found : Parameters) (p : Parameter) (ps : List Parameter)
    → summed order (summed order found (p ∷ [])) ps ≡ summed order found (p ∷ ps)
summed_more order found p ps =
    parameters_are _ _ _ _ _ _ (first_counts key_seen found.key_hash 112 p ps)
    (first_counts last_octet found.status 113 p ps) (first_counts (strength_seen order) found.strength 6 p ps)

-- ---- one parameter

by_test : (m n : ℕ) (b : Bool) → eqb m n ≡ b → (m ≡ n) ⊎ (eqb m n ≡ false)
by_test m n true e = inl (eqb-true m n e)
by_test m n false e = inr e

is_or_not : (m n : ℕ) → (m ≡ n) ⊎ (eqb m n ≡ false)
is_or_not m n = by_test m n (eqb m n) refl

-- a strength stands in four octets
count_there : (order : Endianness) (value : List ℕ) → length value ≡ 4
    → (z : ℤ) × (rest : List ℕ) × (count_at order value ≡ Some (z, rest))
unfolding count_at number_at
count_there order value len =
    let long : ltb (length value) 4 ≡ false = le-ltb _ _ (omega (arith, len)) in
    (cast_signed w32 (number_of order w32 (take 4 value)), drop 4 value, rw long refl)

noted_only : (order : Endianness) (found : Parameters) (p : Parameter) → IsParameter p
    → noted_at order found p.id p.value ≡ Some (summed order found (p ∷ []))
unfolding noted_at
noted_only order found p valid =
    let whole : eqb (length p.value % 4) 0 ≡ true = eq-eqb _ 0 valid.whole in
    elim (is_or_not p.id 112) [
      | inl is ↦
          let long : eqb (length p.value) 16 ≡ true = eq-eqb _ 16 (valid.key_hash is) in
          let key : key_at p.value ≡ Some (key_seen p.value, []) =
          ap key_at (sym (append-nil p.value)) ∙ field_key.again (key_seen p.value) [] (valid.key_hash is) in
          rw (whole, is, long, key) (ap Some
          (parameters_are _ _ _ _ _ _ refl (sym (or_none found.status)) (sym (or_none found.strength))))
      | inr other ↦ elim (is_or_not p.id 113) [
        | inl is ↦
            let short : eqb (length p.value) 4 ≡ true = eq-eqb _ 4 (valid.status is) in
            rw (whole, is, short) (ap Some
            (parameters_are _ _ _ _ _ _ (sym (or_none found.key_hash)) refl (sym (or_none found.strength))))
        | inr neither ↦ elim (is_or_not p.id 6) [
          | inl is ↦
              let short : eqb (length p.value) 4 ≡ true = eq-eqb _ 4 (valid.strength is) in
              let there = count_there order p.value (valid.strength is) in
              let seen : there.0 ≡ strength_seen order p.value =
              ap (λ (o : Option (ℤ × List ℕ)). (unwrap_or o (pos 0, [])).0) (sym there.2) in
              rw (whole, is, short, there.2) (ap Some
              (parameters_are _ _ _ _ _ _ (sym (or_none found.key_hash)) (sym (or_none found.status))
              (ap (λ (z : ℤ). option_or found.strength (Some z)) seen)))
          | inr none ↦ rw (whole, other, neither, none) (ap Some (summed_none order found))
        ]
      ]
    ]

passes : {A : Type 0} (b : Bool) (o : Option A) (x : A) → cond b o None ≡ Some x → (b ≡ true) × (o ≡ Some x)
passes true o x e = (refl, e)
passes false o x e = absurd cc

noted_whole : (order : Endianness) (found more : Parameters) (id : ℕ) (value : List ℕ)
    → noted_at order found id value ≡ Some more → length value % 4 ≡ 0
unfolding noted_at
noted_whole order found more id value e = eqb-true _ 0 (passes (eqb (length value % 4) 0) _ more e).0

noted_key : (order : Endianness) (found more : Parameters) (value : List ℕ)
    → noted_at order found 112 value ≡ Some more → length value ≡ 16
unfolding noted_at
noted_key order found more value e =
    eqb-true _ 16 (passes (eqb (length value) 16) _ more (passes (eqb (length value % 4) 0) _ more e).1).0

noted_status : (order : Endianness) (found more : Parameters) (value : List ℕ)
    → noted_at order found 113 value ≡ Some more → length value ≡ 4
unfolding noted_at
noted_status order found more value e =
    eqb-true _ 4 (passes (eqb (length value) 4) _ more (passes (eqb (length value % 4) 0) _ more e).1).0

noted_strength : (order : Endianness) (found more : Parameters) (value : List ℕ)
    → noted_at order found 6 value ≡ Some more → length value ≡ 4
unfolding noted_at
noted_strength order found more value e =
    eqb-true _ 4 (passes (eqb (length value) 4) _ more (passes (eqb (length value % 4) 0) _ more e).1).0

noted_valid : (order : Endianness) (found more : Parameters) (id : ℕ) (value : List ℕ) → id < 2 ^ 16 → id ≢ 1
    → length value < 2 ^ 16 → noted_at order found id value ≡ Some more
    → IsParameter (record { id = id; value = value })
noted_valid order found more id value small no_sentinel short e = record {
  small = small;
  no_sentinel = no_sentinel;
  short = short;
  whole = noted_whole order found more id value e;
  key_hash = λ is. noted_key order found more value (rw is at e);
  status = λ is. noted_status order found more value (rw is at e);
  strength = λ is. noted_strength order found more value (rw is at e);
}

-- ---- at the front of bytes

pub record TakesParameter (order : Endianness) (bytes : List ℕ) (x : ℕ × List ℕ × List ℕ) : Type 0 where
  pub len : ℕ
  pub len_small : len < 2 ^ 16
  pub id_small : x.0 < 2 ^ 16
  pub text : bytes ≡ number order w16 x.0 ++ (number order w16 len ++ (x.1 ++ x.2))
  pub extent : length x.1 ≡ cond (eqb x.0 1) 0 len
  pub value : AreOctets x.1
  pub octets : AreOctets x.2

front_octets : (a b : List ℕ) → AreOctets (a ++ b) → AreOctets a
front_octets a b h =
    subst (λ (z : List ℕ). AreOctets z) (take_at a b (length a) refl) (AreOctets-take (length a) (a ++ b) h)

pub parameter_found : (order : Endianness) (bytes : List ℕ) (x : ℕ × List ℕ × List ℕ) → AreOctets bytes
    → parameter_at order bytes ≡ Some x
    → TakesParameter order bytes x
unfolding parameter_at
parameter_found order bytes x octets e =
    option_and_then_some (λ id. number_at order w16 id.1 >>= λ len. octets_at
    (cond (eqb id.0 1) 0 len.0) len.1 >>= λ value. Some (id.0, value.0, value.1)) (number_at order w16 bytes) x e
    (λ id q1 e1.
    let t0 = (field_u16 order).takes bytes id.0 id.1 octets q1 in
    option_and_then_some (λ len. octets_at (cond (eqb id.0 1) 0 len.0) len.1 >>= λ value. Some (id.0, value.0, value.1))
    (number_at order w16 id.1) x e1 (λ len q2 e2.
    let t1 = (field_u16 order).takes id.1 len.0 len.1 t0.0.octets q2 in
    option_and_then_some (λ value. Some (id.0, value.0, value.1)) (octets_at (cond (eqb id.0 1) 0 len.0) len.1) x e2
    (λ value q3 e3.
    let t2 = (field_octets (cond (eqb id.0 1) 0 len.0)).takes len.1 value.0 value.1 t1.0.octets q3 in
    let made : ℕ × List ℕ × List ℕ = (id.0, value.0, value.1) in
    subst (λ (y : ℕ × List ℕ × List ℕ). TakesParameter order bytes y) (some_is made x e3) (record {
      len = len.0;
      len_small = t1.1;
      id_small = t0.1;
      text =
          t0.0.parts ∙ ap (λ (z : List ℕ). number order w16 id.0 ++ z)
          (t1.0.parts ∙ ap (λ (z : List ℕ). number order w16 len.0 ++ z) t2.0.parts);
      extent = t2.1;
      value =
          front_octets value.0 value.1 (subst (λ (z : List ℕ). AreOctets z) t2.0.parts t1.0.octets);
      octets = t2.0.octets;
    }))))

empty_is : (xs : List ℕ) → length xs ≡ 0 → xs ≡ []
empty_is [] e = refl
empty_is (x ∷ xs) e = absurd (omega arith)

pub sentinel_found : (order : Endianness) (bytes : List ℕ) (x : ℕ × List ℕ × List ℕ) → TakesParameter order bytes x
    → x.0 ≡ 1 → ReadsParameters order bytes [] x.2
sentinel_found order bytes x t is =
    let none : x.1 ≡ [] = empty_is x.1 (t.extent ∙ ap (λ (n : ℕ). cond (eqb n 1) 0 t.len) is) in (
      t.len,
      t.len_small,
      t.text ∙ ap (λ (n : ℕ). number order w16 n ++ (number order w16 t.len ++ (x.1 ++ x.2))) is
          ∙ ap (λ (z : List ℕ). number order w16 1 ++ (number order w16 t.len ++ (z ++ x.2))) none
          ∙ sym (append_assoc (number order w16 1) (number order w16 t.len) x.2),
    )

pub value_found : (order : Endianness) (bytes : List ℕ) (x : ℕ × List ℕ × List ℕ) → TakesParameter order bytes x
    → eqb x.0 1 ≡ false
    → (length x.1 < 2 ^ 16) × (bytes ≡ parameter_text order (record { id = x.0; value = x.1 }) ++ x.2)
value_found order bytes x t other =
    let len : length x.1 ≡ t.len = t.extent ∙ ap (λ (b : Bool). cond b 0 t.len) other in (
      rw len t.len_small,
      t.text ∙ ap (λ (n : ℕ). number order w16 x.0 ++ (number order w16 n ++ (x.1 ++ x.2))) (sym len)
          ∙ regroup (number order w16 x.0) (number order w16 (length x.1)) x.1 x.2,
    )
  where
    regroup : (a b c d : List ℕ) → a ++ (b ++ (c ++ d)) ≡ (a ++ b ++ c) ++ d
    regroup a b c d = simp append_assoc

pub parameter_again : (order : Endianness) (p : Parameter) (after : List ℕ) → IsParameter p
    → parameter_at order (parameter_text order p ++ after) ≡ Some (p.id, p.value, after)
unfolding parameter_at
parameter_again order p after valid =
    let other : eqb p.id 1 ≡ false = ne_eqb p.id 1 valid.no_sentinel in
    ap (parameter_at order) (regroup (number order w16 p.id) (number order w16 (length p.value)) p.value after)
    ∙ rw (
      (field_u16 order).again p.id (number order w16 (length p.value) ++ (p.value ++ after)) valid.small,
      (field_u16 order).again (length p.value) (p.value ++ after) valid.short,
      other,
      (field_octets (length p.value)).again p.value after refl,
    ) refl
  where
    regroup : (a b c d : List ℕ) → (a ++ b ++ c) ++ d ≡ a ++ (b ++ (c ++ d))
    regroup a b c d = simp append_assoc

pub sentinel_again : (order : Endianness) (len : ℕ) (rest : List ℕ) → len < 2 ^ 16
    → parameter_at order (number order w16 1 ++ number order w16 len ++ rest) ≡ Some (1, [], rest)
unfolding parameter_at
sentinel_again order len rest small =
    ap (parameter_at order) (append_assoc (number order w16 1) (number order w16 len) rest)
    ∙ rw (
      (field_u16 order).again 1 (number order w16 len ++ rest) (omega arith),
      (field_u16 order).again len rest small,
      (field_octets 0).again [] rest refl,
    ) refl

-- ---- the parameters up to the sentinel

-- a strength that stands there has four octets
abbrev pub IsStrengthOctets : List Parameter → Type 0
IsStrengthOctets ps = (v : List ℕ) → parameter_value 6 ps ≡ Some v → AreOctets v × (length v ≡ 4)

more_octets : (p : Parameter) (ps : List Parameter) → AreOctets p.value → IsParameter p → IsStrengthOctets ps
    → IsStrengthOctets (p ∷ ps)
more_octets p ps octets valid later v e =
    elim (is_or_not p.id 6) [
      | inl is ↦
          let same : p.value ≡ v = some_is p.value v (rw is at e) in
          subst (λ (w : List ℕ). AreOctets w × (length w ≡ 4)) same (octets, valid.strength is)
      | inr other ↦ later v (rw other at e)
    ]

pub record FindsParameters (order : Endianness) (bytes : List ℕ) (found : Parameters)
    (x : Parameters × List ℕ) : Type 0 where
  pub parameters : List Parameter
  pub reads : ReadsParameters order bytes parameters x.1
  pub sum : x.0 ≡ summed order found parameters
  pub strength : IsStrengthOctets parameters
  pub octets : AreOctets x.1

from_found : (fuel : ℕ) (order : Endianness) (found : Parameters) (bytes : List ℕ) (x : Parameters × List ℕ)
    → AreOctets bytes
    → parameters_from fuel order found bytes ≡ Some x → FindsParameters order bytes found x
unfolding parameters_from
from_found zero order found bytes x octets e = absurd cc
from_found (suc fuel) order found bytes x octets e =
    option_and_then_some (λ p. cond (eqb p.0 1) (Some (found, p.2))
    (noted_at order found p.0 p.1 >>= λ more. parameters_from fuel order more p.2)) (parameter_at order bytes) x e
    (λ p q1 e1.
    let t = parameter_found order bytes p octets q1 in
    let whole : Parameters × List ℕ = (found, p.2) in
    cond_is {P = FindsParameters order bytes found x} (eqb p.0 1) (Some whole)
    (noted_at order found p.0 p.1 >>= λ more. parameters_from fuel order more p.2) (Some x) e1
    (λ is s. subst (λ (y : Parameters × List ℕ). FindsParameters order bytes found y) (some_is whole x s)
    (record {
      parameters = [];
      reads = sentinel_found order bytes p t
          (eqb-true p.0 1 is);
      sum = summed_none order found;
      strength = λ v none. absurd cc;
      octets = t.octets;
    }))
    (λ other s. option_and_then_some (λ more. parameters_from fuel order more p.2) (noted_at order found p.0 p.1) x s
    (λ more q2 e2.
    let rest = from_found fuel order more p.2 x t.octets e2 in
    let parameter : Parameter = record { id = p.0; value = p.1 } in
    let there = value_found order bytes p t other in
    let valid = noted_valid order found more p.0 p.1 t.id_small (eqb-false p.0 1 other) there.0 q2 in
    let more-is : more ≡ summed order found (parameter ∷ []) =
    some_is more _ (sym q2 ∙ noted_only order found parameter valid) in
    record {
      parameters = parameter ∷ rest.parameters;
      reads = (p.2, valid, there.1, rest.reads);
      sum =
          rest.sum ∙ ap (λ (y : Parameters). summed order y rest.parameters) more-is
          ∙ summed_more order found parameter rest.parameters;
      strength = more_octets parameter rest.parameters t.value valid rest.strength;
      octets = rest.octets;
    })))

shorter : (order : Endianness) (p : Parameter) (bytes after : List ℕ) → bytes ≡ parameter_text order p ++ after
    → length after < length bytes
shorter order p bytes after e =
    let head = number order w16 p.id ++ number order w16 (length p.value) in
    omega (
      arith,
      ap length e,
      length-append (parameter_text order p) after,
      length-append head p.value,
      length-append
          (number order w16 p.id) (number order w16 (length p.value)),
      len_16 order p.id,
    )

from_only : (ps : List Parameter) (fuel : ℕ) (order : Endianness) (found : Parameters) (bytes rest : List ℕ)
    → ReadsParameters order bytes ps rest
    → length bytes < fuel → parameters_from fuel order found bytes ≡ Some (summed order found ps, rest)
unfolding parameters_from
from_only [] zero order found bytes rest r lt = absurd (omega arith)
from_only [] (suc fuel) order found bytes rest r lt =
    ap (parameters_from (suc fuel) order found) r.2
    ∙ rw (sentinel_again order r.0 rest r.1) (ap (λ (y : Parameters). Some (y, rest)) (summed_none order found))
from_only (p ∷ ps) zero order found bytes rest r lt = absurd (omega arith)
from_only (p ∷ ps) (suc fuel) order found bytes rest r lt =
    let other : eqb p.id 1 ≡ false = ne_eqb p.id 1 r.1.no_sentinel in
    let less = shorter order p bytes r.0 r.2 in
    ap (parameters_from (suc fuel) order found) r.2
    ∙ rw (
      parameter_again order p r.0 r.1,
      other,
      noted_only order found p r.1,
      from_only ps fuel order
          (summed order found (p ∷ [])) r.0 rest r.3 (omega arith),
    )
    (ap (λ (y : Parameters). Some (y, rest)) (summed_more order found p ps))

abbrev pub nothing : Parameters
nothing = record { key_hash = None; status = None; strength = None }

pub parameters_found : (order : Endianness) (bytes : List ℕ) (x : Parameters × List ℕ) → AreOctets bytes
    → parameters_at order bytes ≡ Some x
    → FindsParameters order bytes nothing x
unfolding parameters_at
parameters_found order bytes x octets e = from_found (suc (length bytes)) order nothing bytes x octets e

pub parameters_only : (order : Endianness) (bytes : List ℕ) (ps : List Parameter) (rest : List ℕ)
    → ReadsParameters order bytes ps rest
    → parameters_at order bytes ≡ Some (summed order nothing ps, rest)
unfolding parameters_at
parameters_only order bytes ps rest r = from_only ps (suc (length bytes)) order nothing bytes rest r (omega arith)

-- ---- the strength

empty_after : (order : Endianness) (v : List ℕ) (z : ℤ) (rest : List ℕ) → length v ≡ 4
    → v ≡ count_text order z ++ rest → v ≡ count_text order z
empty_after order v z rest len parts =
    let none : rest ≡ [] = empty_is rest (omega (
      arith,
      len,
      ap length parts,
      length-append (count_text order z) rest,
      len_32 order (cast_unsigned w32 z),
    )) in
    parts ∙ ap (λ (t : List ℕ). count_text order z ++ t) none ∙ append-nil (count_text order z)

pub seen_found : (order : Endianness) (o : Option (List ℕ)) (z : ℤ)
    → ((v : List ℕ) → o ≡ Some v → AreOctets v × (length v ≡ 4)) → option_map (strength_seen order) o ≡ Some z
    → FitsSigned w32 z × (o ≡ Some (count_text order z))
seen_found order None z octets e = absurd cc
seen_found order (Some v) z octets e =
    let there = count_there order v (octets v refl).1 in
    let seen : there.0 ≡ z =
    ap (λ (o : Option (ℤ × List ℕ)). (unwrap_or o (pos 0, [])).0) (sym there.2) ∙ some_is (strength_seen order v) z e in
    let taken = (field_count order).takes v there.0 there.1 (octets v refl).0 there.2 in
    let text : v ≡ count_text order there.0 =
    empty_after order v there.0 there.1 (octets v refl).1 taken.0.parts in (
      subst (λ (x : ℤ). FitsSigned w32 x) seen taken.1,
      ap Some (text ∙ ap (count_text order) seen),
    )

pub none_found : (order : Endianness) (o : Option (List ℕ)) → option_map (strength_seen order) o ≡ None → o ≡ None
none_found order None e = refl
none_found order (Some v) e = absurd cc

pub seen_only : (order : Endianness) (o : Option (List ℕ)) (z : ℤ) → FitsSigned w32 z
    → o ≡ Some (count_text order z) → option_map (strength_seen order) o ≡ Some z
seen_only order o z fits e =
    let again : count_at order (count_text order z) ≡ Some (z, []) =
    ap (count_at order) (sym (append-nil (count_text order z))) ∙ (field_count order).again z [] fits in
    ap (option_map (strength_seen order)) e
    ∙ ap (λ (o : Option (ℤ × List ℕ)). Some (unwrap_or o (pos 0, [])).0) again

-- ---- the loop

-- reading goes on from here with what was found
pub record MayGoOn (order : Endianness) (bytes : List ℕ) (found : Parameters) (left : List ℕ) : Type 0 where
  pub fuel : ℕ
  pub enough : length left < fuel
  pub same : parameters_from fuel order found left ≡ parameters_at order bytes

pub may_begin : (order : Endianness) (bytes : List ℕ) → MayGoOn order bytes nothing bytes
unfolding parameters_at
may_begin order bytes = record { fuel = suc (length bytes); enough = omega arith; same = refl }

pub may_go_on : (order : Endianness) (bytes : List ℕ) (found : Parameters) (left : List ℕ) (id : ℕ)
    (value rest : List ℕ) (more : Parameters)
    → parameter_at order left ≡ Some (id, value, rest) → id ≢ 1 → noted_at order found id value ≡ Some more
    → length rest < length left
    → MayGoOn order bytes found left → MayGoOn order bytes more rest
unfolding parameters_from
may_go_on order bytes found left id value rest more e other noted less on = step on.fuel on.enough on.same
  where
    step : (fuel : ℕ) → length left < fuel → parameters_from fuel order found left ≡ parameters_at order bytes
        → MayGoOn order bytes more rest
    step zero lt same = absurd (omega arith)
    step (suc fuel) lt same =
        let no : eqb id 1 ≡ false = ne_eqb id 1 other in
        let one : parameters_from (suc fuel) order found left ≡ parameters_from fuel order more rest =
        rw (e, no, noted) refl in
        record { fuel = fuel; enough = omega arith; same = sym one ∙ same }

pub ends_without : (order : Endianness) (bytes : List ℕ) (found : Parameters) (left : List ℕ)
    → parameter_at order left ≡ None
    → MayGoOn order bytes found left → None ≡ parameters_at order bytes
unfolding parameters_from
ends_without order bytes found left e on = step on.fuel on.enough on.same
  where
    step : (fuel : ℕ) → length left < fuel → parameters_from fuel order found left ≡ parameters_at order bytes
        → None ≡ parameters_at order bytes
    step zero lt same = same
    step (suc fuel) lt same = rw e at same

pub ends_at_sentinel : (order : Endianness) (bytes : List ℕ) (found : Parameters) (left : List ℕ) (id : ℕ)
    (value rest : List ℕ)
    → parameter_at order left ≡ Some (id, value, rest) → id ≡ 1 → MayGoOn order bytes found left
    → Some (found, rest) ≡ parameters_at order bytes
unfolding parameters_from
ends_at_sentinel order bytes found left id value rest e is on = step on.fuel on.enough on.same
  where
    step : (fuel : ℕ) → length left < fuel → parameters_from fuel order found left ≡ parameters_at order bytes
        → Some (found, rest) ≡ parameters_at order bytes
    step zero lt same = absurd (omega arith)
    step (suc fuel) lt same =
        let yes : eqb id 1 ≡ true = eq-eqb id 1 is in
        let one : parameters_from (suc fuel) order found left ≡ Some (found, rest) = rw (e, yes) refl in
        sym one ∙ same

pub ends_at_invalid : (order : Endianness) (bytes : List ℕ) (found : Parameters) (left : List ℕ) (id : ℕ)
    (value rest : List ℕ)
    → parameter_at order left ≡ Some (id, value, rest) → id ≢ 1 → noted_at order found id value ≡ None
    → MayGoOn order bytes found left
    → None ≡ parameters_at order bytes
unfolding parameters_from
ends_at_invalid order bytes found left id value rest e other noted on = step on.fuel on.enough on.same
  where
    step : (fuel : ℕ) → length left < fuel → parameters_from fuel order found left ≡ parameters_at order bytes
        → None ≡ parameters_at order bytes
    step zero lt same = absurd (omega arith)
    step (suc fuel) lt same =
        let no : eqb id 1 ≡ false = ne_eqb id 1 other in
        let one : parameters_from (suc fuel) order found left ≡ None = rw (e, no, noted) refl in
        sym one ∙ same
