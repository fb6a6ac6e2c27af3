-- Where parameters end, the octets part.
use Rattle.std.proofs.Common.{◌≡◌, ℕ, ◌≤◌, List, [], ◌∷◌, ◌++◌, length, Option, Some, None, refl, sym, ap, ◌∙◌, append_assoc, arith}
use Rattle.std.specs.Int.{w16}
use Rattle.std.specs.Option.{option_map}
use Rattle.std.proofs.lemmas.List.{length-append}
use Rattle.dds_base.specs.declared.endianness.Endianness.{Endianness}
use Rattle.dds_base.specs.Fields.{number}
use Rattle.dds_base.proofs.FieldLaws.{AreOctets}
use Rattle.rtps_wire.specs.declared.parameters.Parameters.{Parameters}
use Rattle.rtps_wire.specs.Parameters.{Parameter, parameter_text, ReadsParameters}
use Rattle.rtps_wire.specs.ParametersAt.{parameters_at}
use Rattle.rtps_wire.proofs.ParameterLaws.{parameters_found}

-- the octets are some and these
pub record EndsWith (bytes rest : List ℕ) : Type 0 where
  pub front : List ℕ
  pub parts : bytes ≡ front ++ rest

pub parameters_part : (order : Endianness) (bytes : List ℕ) (ps : List Parameter) (rest : List ℕ)
    → ReadsParameters order bytes ps rest → EndsWith bytes rest
parameters_part order bytes [] rest r =
    record { front = number order w16 1 ++ number order w16 r.0; parts = r.2 }
parameters_part order bytes (p ∷ ps) rest r =
    let more = parameters_part order r.0 ps rest r.3 in
    record {
      front = parameter_text order p ++ more.front;
      parts = r.2 ∙ ap (λ (z : List ℕ). parameter_text order p ++ z) more.parts
          ∙ sym (append_assoc (parameter_text order p) more.front rest);
    }

pub mapped_is : {A B : Type 0} (f : A → B) (o : Option A) (y : B) → Some y ≡ option_map f o
    → (x : A) × (o ≡ Some x) × (f x ≡ y)
mapped_is f None y e = absurd cc
mapped_is f (Some x) y e = (x, refl, cc)

-- what is skipped stands in front
pub skipped : (order : Endianness) (bytes rest : List ℕ) → AreOctets bytes
    → Some rest ≡ option_map (λ (x : Parameters × List ℕ). x.1) (parameters_at order bytes) → EndsWith bytes rest
skipped order bytes rest octets e =
    let m = mapped_is (λ (x : Parameters × List ℕ). x.1) (parameters_at order bytes) rest e in
    let found = parameters_found order bytes m.0 octets m.1 in
    rw (← m.2) (parameters_part order bytes found.parameters m.0.1 found.reads)

pub shorter : (bytes rest : List ℕ) → EndsWith bytes rest → length rest ≤ length bytes
shorter bytes rest e = omega (arith, ap length e.parts, length-append e.front rest)
