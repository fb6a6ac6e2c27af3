-- Reading a list of parameters from left to right: what the code does, on lists. By `value_in` alone `first_value` says
-- what it finds; `read_endpoint` and `read_participant` say what they read by `Lists`.
--
-- RTPS 2.5, 9.4.2 (ParameterList).
use Rattle.std.specs.Prelude.{◌≡◌, ℕ, zero, suc, ◌%◌, ◌==◌, List, [], ◌∷◌, length, unwrap_or, Option, Some, None, if◌then◌else◌}
use Rattle.std.specs.Option.{option_map}
use Rattle.dds_base.specs.declared.endianness.Endianness.{Endianness}
use Rattle.dds_base.specs.declared.endianness.Endianness.TheVariants.{Big, Little}
use Rattle.dds_base.specs.Fields.{◌>>=◌}
use Rattle.rtps_wire.specs.Names.{len_aligned, len_key, len_ownership_strength, len_status_info, pid_key_hash, pid_ownership_strength, pid_sentinel, pid_status_info}
use Rattle.rtps_wire.specs.Parameters.{Parameter, ReadsParameters}
use Rattle.rtps_wire.specs.ParametersAt.{parameter_at}
use Rattle.rtps_announcements.specs.Lists.{IsUnderstood}

-- the order that the representation names, and what follows the two option octets
unfoldable pub list_at : List ℕ → Option (Endianness × List ℕ)
list_at (zero ∷ suc (suc zero) ∷ x ∷ y ∷ rest) = Some (Big, rest)
list_at (zero ∷ suc (suc (suc zero)) ∷ x ∷ y ∷ rest) = Some (Little, rest)
list_at _ = None

-- the lengths that a parameter of this id may have
pub record IsWhole (id : ℕ) (value : List ℕ) : Type 0 where
  pub whole : length value % len_aligned ≡ 0
  pub key_hash : id ≡ pid_key_hash → length value ≡ len_key
  pub status : id ≡ pid_status_info → length value ≡ len_status_info
  pub strength : id ≡ pid_ownership_strength → length value ≡ len_ownership_strength

-- The bytes begin with parameters up to a sentinel, all understood.
pub record HasParameters (order : Endianness) (known bytes : List ℕ) : Type 0 where
  pub ps : List Parameter
  pub rest : List ℕ
  pub list : ReadsParameters order bytes ps rest
  pub understood : IsUnderstood known ps

-- the value of the first parameter of this id, where it is among fewer than the first number
unfoldable pub value_from : ℕ → Endianness → ℕ → List ℕ → Option (List ℕ)
value_from zero order id bytes = None
value_from (suc fuel) order id bytes = do
  p ← parameter_at order bytes
  if p.0 == pid_sentinel then None else (if p.0 == id then Some p.1 else value_from fuel order id p.2)

-- the value of the first parameter of this id
unfoldable pub value_in : Endianness → List ℕ → ℕ → Option (List ℕ)
value_in order bytes id = value_from (suc (length bytes)) order id bytes

-- the parameters up to the sentinel, where there are fewer than the first number of them
unfoldable pub parameters_from : ℕ → Endianness → List ℕ → List Parameter
parameters_from zero order bytes = []
parameters_from (suc fuel) order bytes = unwrap_or (option_map (λ p. if p.0 == pid_sentinel then []
    else record { id = p.0; value = p.1 } ∷ parameters_from fuel order p.2) (parameter_at order bytes)) []

-- the parameters up to the sentinel
unfoldable pub parameters_in : Endianness → List ℕ → List Parameter
parameters_in order bytes = parameters_from (suc (length bytes)) order bytes
