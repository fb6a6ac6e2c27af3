-- A list of parameters that is found stands there, and the value that is found is that of the first parameter.
use Rattle.std.proofs.Common.{◌≡◌, ◌≢◌, ℕ, zero, suc, ◌<◌, true, false, cond, eqb, List, [], ◌∷◌, ◌++◌, length, Some, None, refl, sym, ap, subst, ◌∙◌, arith, Contains}
use Rattle.std.proofs.lemmas.Bool.{eq-eqb, ne_eqb}
use Rattle.std.proofs.lemmas.Option.{option_and_then_some}
use Rattle.std.specs.Int.{w16}
use Rattle.std.proofs.lemmas.List.{length-append}
use Rattle.dds_base.specs.declared.endianness.Endianness.{Endianness}
use Rattle.dds_base.specs.declared.endianness.Endianness.TheVariants.{Big, Little}
use Rattle.dds_base.specs.Fields.{number}
use Rattle.dds_base.proofs.FieldLaws.{AreOctets, cond_is, some_is}
use Rattle.rtps_wire.specs.Parameters.{Parameter, parameter_text, IsParameter, ReadsParameters, parameter_value}
use Rattle.rtps_wire.specs.ParametersAt.{parameter_at}
use Rattle.rtps_wire.proofs.ParameterLaws.{parameter_found, sentinel_found, value_found, parameter_again, sentinel_again}
use Rattle.rtps_wire.proofs.WireFields.{len_16}
use Rattle.rtps_announcements.specs.Lists.{list_representation, MustBeUnderstood, IsUnderstood}
use Rattle.rtps_announcements.specs.ListAt.{list_at, IsWhole, HasParameters, value_from, value_in, parameters_from, parameters_in}

-- ---- the representation

-- the order and the options that a representation shows
pub record Represents (bytes : List ℕ) (order : Endianness) (rest : List ℕ) : Type 0 where
  pub options : List ℕ
  pub two : length options ≡ 2
  pub parts : bytes ≡ list_representation order ++ options ++ rest
  pub octets : AreOctets rest

pub representation_takes : (bytes : List ℕ) (order : Endianness) (rest : List ℕ) → AreOctets bytes
    → list_at bytes ≡ Some (order, rest) → Represents bytes order rest
unfolding list_at
representation_takes (zero ∷ suc (suc zero) ∷ x ∷ y ∷ rest) order rest' octets e =
    subst (λ (p : Endianness × List ℕ). Represents (0 ∷ 2 ∷ x ∷ y ∷ rest) p.0 p.1)
    (some_is (Big, rest) (order, rest') e)
    (record { options = x ∷ y ∷ []; two = refl; parts = refl; octets = λ i. octets (suc (suc (suc (suc i)))) })
representation_takes (zero ∷ suc (suc (suc zero)) ∷ x ∷ y ∷ rest) order rest' octets e =
    subst (λ (p : Endianness × List ℕ). Represents (0 ∷ 3 ∷ x ∷ y ∷ rest) p.0 p.1)
    (some_is (Little, rest) (order, rest') e)
    (record { options = x ∷ y ∷ []; two = refl; parts = refl; octets = λ i. octets (suc (suc (suc (suc i)))) })
representation_takes _ order rest' octets e = absurd cc

pub representation_again : (order : Endianness) (options rest : List ℕ) → length options ≡ 2
    → list_at (list_representation order ++ options ++ rest) ≡ Some (order, rest)
unfolding list_at
representation_again Big (x ∷ y ∷ []) rest two = refl
representation_again Little (x ∷ y ∷ []) rest two = refl
representation_again order [] rest two = absurd (omega arith)
representation_again order (x ∷ []) rest two = absurd (omega arith)
representation_again order (x ∷ y ∷ z ∷ zs) rest two = absurd (omega arith)

-- ---- the parameter at the front

-- the list goes on after its first parameter
record Begins (order : Endianness) (id : ℕ) (value after rest : List ℕ) (ps : List Parameter) : Type 0 where
  qs : List Parameter
  parts : ps ≡ record { id = id; value = value } ∷ qs
  valid : IsParameter (record { id = id; value = value })
  list : ReadsParameters order after qs rest

begins_with : (order : Endianness) (id : ℕ) (value after bytes rest : List ℕ) (ps : List Parameter)
    → parameter_at order bytes ≡ Some (id, value, after) → id ≢ 1 → ReadsParameters order bytes ps rest
    → Begins order id value after rest ps
begins_with order id value after bytes rest [] e other r =
    let same : Some (1, [], rest) ≡ Some (id, value, after) =
    sym (sentinel_again order r.0 rest r.1) ∙ ap (parameter_at order) (sym r.2) ∙ e in
    absurd (other (sym (ap (λ (x : ℕ × List ℕ × List ℕ). x.0) (some_is _ _ same))))
begins_with order id value after bytes rest (p ∷ ps) e other r =
    let same : Some (p.id, p.value, r.0) ≡ Some (id, value, after) =
    sym (parameter_again order p r.0 r.1) ∙ ap (parameter_at order) (sym r.2) ∙ e in
    let parts : (p.id, p.value, r.0) ≡ (id, value, after) = some_is _ _ same in
    subst (λ (x : ℕ × List ℕ × List ℕ). Begins order x.0 x.1 x.2 rest (p ∷ ps)) parts
    (record { qs = ps; parts = refl; valid = r.1; list = r.3 })

some_none : {A : Type 0} (x : A) → Some x ≡ None → ⊥
some_none x e = absurd cc

none_begins : (order : Endianness) (bytes rest : List ℕ) (ps : List Parameter) → parameter_at order bytes ≡ None
    → ReadsParameters order bytes ps rest → ⊥
none_begins order bytes rest [] e r =
    let same : Some (1, [], rest) ≡ None =
    sym (sentinel_again order r.0 rest r.1) ∙ ap (parameter_at order) (sym r.2) ∙ e in some_none _ same
none_begins order bytes rest (p ∷ ps) e r =
    let same : Some (p.id, p.value, r.0) ≡ None =
    sym (parameter_again order p r.0 r.1) ∙ ap (parameter_at order) (sym r.2) ∙ e in some_none _ same

-- ---- whether there is a list

-- what is left is a list where all of it is one, and only there
pub record Walks (order : Endianness) (known bytes left : List ℕ) : Type 0 where
  pub on : HasParameters order known left → HasParameters order known bytes
  pub back : HasParameters order known bytes → HasParameters order known left
  pub octets : AreOctets left

pub walks_first : (order : Endianness) (known bytes : List ℕ) → AreOctets bytes → Walks order known bytes bytes
walks_first order known bytes octets = record { on = λ h. h; back = λ h. h; octets = octets }

front_is : (order : Endianness) (known left : List ℕ) (id : ℕ) (value rest : List ℕ) → AreOctets left
    → parameter_at order left ≡ Some (id, value, rest) → id ≢ 1 → IsWhole id value
    → (MustBeUnderstood id → Contains known id) → HasParameters order known rest → HasParameters order known left
front_is order known left id value rest octets e other whole understood h =
    let t = parameter_found order left (id, value, rest) octets e in
    let there = value_found order left (id, value, rest) t (ne_eqb id 1 other) in
    let valid : IsParameter (record { id = id; value = value }) =
    record {
      small = t.id_small;
      no_sentinel = other;
      short = there.0;
      whole = whole.whole;
      key_hash = whole.key_hash;
      status = whole.status;
      strength = whole.strength;
    } in
    record {
      ps = record { id = id; value = value } ∷ h.ps;
      rest = h.rest;
      list = (rest, valid, there.1, h.list);
      understood = (understood, h.understood);
    }

-- what the first parameter of a list is, and that a list follows
record Fronts (order : Endianness) (known : List ℕ) (id : ℕ) (value rest : List ℕ) : Type 0 where
  whole : IsWhole id value
  understood : MustBeUnderstood id → Contains known id
  list : HasParameters order known rest

fronts : (order : Endianness) (known left : List ℕ) (id : ℕ) (value rest : List ℕ)
    → parameter_at order left ≡ Some (id, value, rest) → id ≢ 1 → HasParameters order known left
    → Fronts order known id value rest
fronts order known left id value rest e other h =
    let b = begins_with order id value rest left h.rest h.ps e other h.list in
    let all : IsUnderstood known (record { id = id; value = value } ∷ b.qs) =
    subst (λ (ps : List Parameter). IsUnderstood known ps) b.parts h.understood in
    record {
      whole = record {
        whole = b.valid.whole;
        key_hash = b.valid.key_hash;
        status = b.valid.status;
        strength = b.valid.strength;
      };
      understood = all.0;
      list = record { ps = b.qs; rest = h.rest; list = b.list; understood = all.1 };
    }

pub walks_on : (order : Endianness) (known bytes left : List ℕ) (id : ℕ) (value rest : List ℕ)
    → parameter_at order left ≡ Some (id, value, rest) → id ≢ 1 → IsWhole id value
    → (MustBeUnderstood id → Contains known id) → Walks order known bytes left → Walks order known bytes rest
walks_on order known bytes left id value rest e other whole understood w =
    record {
      on = λ h. w.on (front_is order known left id value rest w.octets e other whole understood h);
      back = λ h. (fronts order known left id value rest e other (w.back h)).list;
      octets = (parameter_found order left (id, value, rest) w.octets e).octets;
    }

pub ends_well : (order : Endianness) (known bytes left : List ℕ) (id : ℕ) (value rest : List ℕ)
    → parameter_at order left ≡ Some (id, value, rest) → id ≡ 1 → Walks order known bytes left
    → HasParameters order known bytes
ends_well order known bytes left id value rest e is w =
    let t = parameter_found order left (id, value, rest) w.octets e in
    w.on (record {
      ps = [];
      rest = rest;
      list = sentinel_found order left (id, value, rest) t is;
      understood = tt;
    })

pub ends_badly : (order : Endianness) (known bytes left : List ℕ) → parameter_at order left ≡ None
    → Walks order known bytes left → HasParameters order known bytes → ⊥
ends_badly order known bytes left e w h =
    let there = w.back h in none_begins order left there.rest there.ps e there.list

pub is_whole_there : (order : Endianness) (known bytes left : List ℕ) (id : ℕ) (value rest : List ℕ)
    → parameter_at order left ≡ Some (id, value, rest) → id ≢ 1 → Walks order known bytes left
    → HasParameters order known bytes → IsWhole id value
is_whole_there order known bytes left id value rest e other w h =
    (fronts order known left id value rest e other (w.back h)).whole

pub is_understood_there : (order : Endianness) (known bytes left : List ℕ) (id : ℕ) (value rest : List ℕ)
    → parameter_at order left ≡ Some (id, value, rest) → id ≢ 1 → Walks order known bytes left
    → HasParameters order known bytes → MustBeUnderstood id → Contains known id
is_understood_there order known bytes left id value rest e other w h =
    (fronts order known left id value rest e other (w.back h)).understood

-- ---- the first value of an id

-- looking for it goes on from here
pub record Seeks (order : Endianness) (id : ℕ) (bytes left : List ℕ) : Type 0 where
  pub fuel : ℕ
  pub enough : length left < fuel
  pub same : value_from fuel order id left ≡ value_in order bytes id

pub seeks_first : (order : Endianness) (id : ℕ) (bytes : List ℕ) → Seeks order id bytes bytes
unfolding value_in
seeks_first order id bytes = record { fuel = suc (length bytes); enough = omega arith; same = refl }

pub seeks_on : (order : Endianness) (id : ℕ) (bytes left : List ℕ) (x : ℕ) (value rest : List ℕ)
    → parameter_at order left ≡ Some (x, value, rest) → x ≢ 1 → x ≢ id → length rest < length left
    → Seeks order id bytes left → Seeks order id bytes rest
unfolding value_from
seeks_on order id bytes left x value rest e other another less on = step on.fuel on.enough on.same
  where
    step : (fuel : ℕ) → length left < fuel → value_from fuel order id left ≡ value_in order bytes id
        → Seeks order id bytes rest
    step zero lt same = absurd (omega arith)
    step (suc fuel) lt same =
        let no : eqb x 1 ≡ false = ne_eqb x 1 other in
        let not : eqb x id ≡ false = ne_eqb x id another in
        let one : value_from (suc fuel) order id left ≡ value_from fuel order id rest = rw (e, no, not) refl in
        record { fuel = fuel; enough = omega arith; same = sym one ∙ same }

pub seeks_none : (order : Endianness) (id : ℕ) (bytes left : List ℕ) → parameter_at order left ≡ None
    → Seeks order id bytes left → None ≡ value_in order bytes id
unfolding value_from
seeks_none order id bytes left e on = step on.fuel on.enough on.same
  where
    step : (fuel : ℕ) → length left < fuel → value_from fuel order id left ≡ value_in order bytes id
        → None ≡ value_in order bytes id
    step zero lt same = same
    step (suc fuel) lt same = rw e at same

pub seeks_to_the_end : (order : Endianness) (id : ℕ) (bytes left : List ℕ) (x : ℕ) (value rest : List ℕ)
    → parameter_at order left ≡ Some (x, value, rest) → x ≡ 1 → Seeks order id bytes left
    → None ≡ value_in order bytes id
unfolding value_from
seeks_to_the_end order id bytes left x value rest e is on = step on.fuel on.enough on.same
  where
    step : (fuel : ℕ) → length left < fuel → value_from fuel order id left ≡ value_in order bytes id
        → None ≡ value_in order bytes id
    step zero lt same = absurd (omega arith)
    step (suc fuel) lt same =
        let yes : eqb x 1 ≡ true = eq-eqb x 1 is in
        let one : value_from (suc fuel) order id left ≡ None = rw (e, yes) refl in
        sym one ∙ same

pub seeks_it : (order : Endianness) (id : ℕ) (bytes left : List ℕ) (x : ℕ) (value rest : List ℕ)
    → parameter_at order left ≡ Some (x, value, rest) → x ≢ 1 → x ≡ id → Seeks order id bytes left
    → Some value ≡ value_in order bytes id
unfolding value_from
seeks_it order id bytes left x value rest e other is on = step on.fuel on.enough on.same
  where
    step : (fuel : ℕ) → length left < fuel → value_from fuel order id left ≡ value_in order bytes id
        → Some value ≡ value_in order bytes id
    step zero lt same = absurd (omega arith)
    step (suc fuel) lt same =
        let no : eqb x 1 ≡ false = ne_eqb x 1 other in
        let yes : eqb x id ≡ true = eq-eqb x id is in
        let one : value_from (suc fuel) order id left ≡ Some value = rw (e, no, yes) refl in
        sym one ∙ same

-- ---- what it is

shorter : (order : Endianness) (p : Parameter) (bytes after : List ℕ) → bytes ≡ parameter_text order p ++ after
    → length after < length bytes
shorter order p bytes after e =
    let head = number order w16 p.id ++ number order w16 (length p.value) in
    omega (
      arith,
      ap length e,
      length-append (parameter_text order p) after,
      length-append head p.value,
      length-append (number order w16 p.id) (number order w16 (length p.value)),
      len_16 order p.id,
    )

from_is : (ps : List Parameter) (fuel : ℕ) (order : Endianness) (id : ℕ) (bytes rest : List ℕ)
    → ReadsParameters order bytes ps rest → length bytes < fuel
    → value_from fuel order id bytes ≡ parameter_value id ps
unfolding value_from
from_is [] zero order id bytes rest r lt = absurd (omega arith)
from_is [] (suc fuel) order id bytes rest r lt =
    ap (value_from (suc fuel) order id) r.2 ∙ rw (sentinel_again order r.0 rest r.1) refl
from_is (p ∷ ps) zero order id bytes rest r lt = absurd (omega arith)
from_is (p ∷ ps) (suc fuel) order id bytes rest r lt =
    let other : eqb p.id 1 ≡ false = ne_eqb p.id 1 r.1.no_sentinel in
    let less = shorter order p bytes r.0 r.2 in
    ap (value_from (suc fuel) order id) r.2
    ∙ rw (parameter_again order p r.0 r.1, other, from_is ps fuel order id r.0 rest r.3 (omega arith)) refl

-- the value that is found is that of the first parameter of the id
pub value_is : (order : Endianness) (id : ℕ) (bytes rest : List ℕ) (ps : List Parameter)
    → ReadsParameters order bytes ps rest → value_in order bytes id ≡ parameter_value id ps
unfolding value_in
value_is order id bytes rest ps r = from_is ps (suc (length bytes)) order id bytes rest r (omega arith)

from_octets : (fuel : ℕ) (order : Endianness) (id : ℕ) (bytes v : List ℕ) → AreOctets bytes
    → value_from fuel order id bytes ≡ Some v → AreOctets v
unfolding value_from
from_octets zero order id bytes v octets e = absurd cc
from_octets (suc fuel) order id bytes v octets e =
    option_and_then_some (λ p. cond (eqb p.0 1) None
    (cond (eqb p.0 id) (Some p.1) (value_from fuel order id p.2))) (parameter_at order bytes) v e (λ p q1 e1.
    let t = parameter_found order bytes p octets q1 in
    cond_is {P = AreOctets v} (eqb p.0 1) None
    (cond (eqb p.0 id) (Some p.1) (value_from fuel order id p.2)) (Some v) e1 (λ is s. absurd cc)
    (λ other s. cond_is {P = AreOctets v} (eqb p.0 id) (Some p.1) (value_from fuel order id p.2) (Some v) s
    (λ is f. subst (λ (w : List ℕ). AreOctets w) (some_is p.1 v f) t.value)
    (λ another f. from_octets fuel order id p.2 v t.octets f)))

pub value_octets : (order : Endianness) (id : ℕ) (bytes v : List ℕ) → AreOctets bytes
    → value_in order bytes id ≡ Some v → AreOctets v
unfolding value_in
value_octets order id bytes v octets e = from_octets (suc (length bytes)) order id bytes v octets e

-- ---- all parameters

pub some_parameters : (fuel : ℕ) (order : Endianness) (bytes : List ℕ) (x : ℕ) (value rest : List ℕ)
    → parameter_at order bytes ≡ Some (x, value, rest) → x ≢ 1
    → parameters_from (suc fuel) order bytes ≡ record { id = x; value = value } ∷ parameters_from fuel order rest
unfolding parameters_from
some_parameters fuel order bytes x value rest e other =
    let no : eqb x 1 ≡ false = ne_eqb x 1 other in rw (e, no) refl

pub no_parameters : (fuel : ℕ) (order : Endianness) (bytes : List ℕ) → parameter_at order bytes ≡ None
    → parameters_from fuel order bytes ≡ []
unfolding parameters_from
no_parameters zero order bytes e = refl
no_parameters (suc fuel) order bytes e = rw e refl

pub no_more_parameters : (fuel : ℕ) (order : Endianness) (bytes : List ℕ) (x : ℕ) (value rest : List ℕ)
    → parameter_at order bytes ≡ Some (x, value, rest) → x ≡ 1 → parameters_from fuel order bytes ≡ []
unfolding parameters_from
no_more_parameters zero order bytes x value rest e is = refl
no_more_parameters (suc fuel) order bytes x value rest e is =
    let yes : eqb x 1 ≡ true = eq-eqb x 1 is in rw (e, yes) refl

all_are : (ps : List Parameter) (fuel : ℕ) (order : Endianness) (bytes rest : List ℕ)
    → ReadsParameters order bytes ps rest → length bytes < fuel → parameters_from fuel order bytes ≡ ps
all_are [] fuel order bytes rest r lt =
    no_more_parameters fuel order bytes 1 [] rest
    (ap (parameter_at order) r.2 ∙ sentinel_again order r.0 rest r.1) refl
all_are (p ∷ ps) zero order bytes rest r lt = absurd (omega arith)
all_are (p ∷ ps) (suc fuel) order bytes rest r lt =
    let less = shorter order p bytes r.0 r.2 in
    some_parameters fuel order bytes p.id p.value r.0
    (ap (parameter_at order) r.2 ∙ parameter_again order p r.0 r.1) r.1.no_sentinel
    ∙ ap (λ (qs : List Parameter). p ∷ qs) (all_are ps fuel order r.0 rest r.3 (omega arith))

-- the parameters that are found are those that stand there
pub parameters_are : (order : Endianness) (bytes rest : List ℕ) (ps : List Parameter)
    → ReadsParameters order bytes ps rest → parameters_in order bytes ≡ ps
unfolding parameters_in
parameters_are order bytes rest ps r = all_are ps (suc (length bytes)) order bytes rest r (omega arith)
