-- The bytes of a datum and of a key, in either order (RTPS 2.5, clause 10: SerializedPayload, CDR_BE and CDR_LE).
use Rattle.std.specs.Prelude.{◌≡◌, ℕ, ◌≤◌, List, [], ◌∷◌, ◌++◌, length}
use Rattle.std.specs.Int.{w32}
use Rattle.dds_base.specs.declared.datum.Datum.{Datum}
use Rattle.dds_base.specs.declared.key.Key.{Key}
use Rattle.dds_base.specs.declared.endianness.Endianness.{Endianness}
use Rattle.dds_base.specs.declared.endianness.Endianness.TheVariants.{Big, Little}
use Rattle.dds_base.specs.Bounds.{greatest_value, key_octets}
use Rattle.dds_base.specs.Fields.{number}

-- the representation identifier: CDR_BE is 0x0000, CDR_LE is 0x0001
abbrev pub representation : Endianness → List ℕ
representation Big = 0 ∷ 0 ∷ []
representation Little = 0 ∷ 1 ∷ []

-- representation, options, key octets
abbrev pub key_text : Endianness → List ℕ → Key → List ℕ
key_text order options k = representation order ++ options ++ k.0

-- the key form, the length of the value, the value
abbrev pub datum_text : Endianness → List ℕ → Datum → List ℕ
datum_text order options d = key_text order options d.key ++ number order w32 (length d.value) ++ d.value

-- a key of 16 octets, and a value of at most `greatest_value`
pub record IsDatum (d : Datum) : Type 0 where
  pub key : length d.key.0 ≡ key_octets
  pub value : length d.value ≤ greatest_value

-- The bytes begin with the datum, in one of the orders, whatever the two option octets, and whatever follows.
pub record ReadsDatum (bytes : List ℕ) (d : Datum) : Type 0 where
  pub order : Endianness
  pub options : List ℕ
  pub rest : List ℕ
  pub two : length options ≡ 2
  pub text : bytes ≡ datum_text order options d ++ rest
  pub valid : IsDatum d

-- The bytes begin with the key form, in the same ways.
pub record ReadsKey (bytes : List ℕ) (k : Key) : Type 0 where
  pub order : Endianness
  pub options : List ℕ
  pub rest : List ℕ
  pub two : length options ≡ 2
  pub text : bytes ≡ key_text order options k ++ rest
  pub valid : length k.0 ≡ key_octets

-- the one written form: little-endian, options zero, nothing after it
abbrev pub spelling_of_datum : Datum → List ℕ
spelling_of_datum d = datum_text Little (0 ∷ 0 ∷ []) d

-- the one written form of a key
abbrev pub spelling_of_key : Key → List ℕ
spelling_of_key k = key_text Little (0 ∷ 0 ∷ []) k
