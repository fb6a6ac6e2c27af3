-- An announcement as a list of parameters (RTPS 2.5, clause 10: PL_CDR_BE, PL_CDR_LE; 9.4.2: ParameterList; 9.6: ids).
--
-- 0...............8...............16..............24.............31
-- |   representation identifier   |    options, not looked at     |
-- |                parameters, up to the sentinel ...             |
use Rattle.std.specs.Prelude.{◌≡◌, ℕ, ◌<◌, ◌≤◌, List, [], ◌∷◌, ◌++◌, length, Contains}
use Rattle.std.specs.List.{AllByRecursion}
use Rattle.dds_base.specs.declared.endianness.Endianness.{Endianness}
use Rattle.dds_base.specs.declared.endianness.Endianness.TheVariants.{Big, Little}
use Rattle.rtps_wire.specs.Parameters.{Parameter, ReadsParameters}
use Rattle.rtps_announcements.specs.Names.{must_understand_ids, vendor_ids}

-- the representation identifier: PL_CDR_BE is 0x0002, PL_CDR_LE is 0x0003
abbrev pub list_representation : Endianness → List ℕ
list_representation Big = 0 ∷ 2 ∷ []
list_representation Little = 0 ∷ 3 ∷ []

-- The bytes are these parameters in this order of bytes, whatever the two option octets, and whatever follows the
-- sentinel.
pub record ReadsList (bytes : List ℕ) (order : Endianness) (ps : List Parameter) : Type 0 where
  pub options : List ℕ
  pub parameters : List ℕ
  pub rest : List ℕ
  pub two : length options ≡ 2
  pub text : bytes ≡ list_representation order ++ options ++ parameters
  pub list : ReadsParameters order parameters ps rest

-- An id with bit 0x4000 and without bit 0x8000: who does not know it must not go on.
pub record MustBeUnderstood (id : ℕ) : Type 0 where
  pub least : must_understand_ids ≤ id
  pub below : id < vendor_ids

-- Each parameter that must be understood is one of those that are known.
abbrev pub IsUnderstood : List ℕ → List Parameter → Type 0
IsUnderstood known ps = AllByRecursion (λ p. MustBeUnderstood p.id → Contains known p.id) ps
