-- The fields of submessages, as they stand in bytes (RTPS 2.5, 9.3 and 9.4.2).
use Rattle.std.specs.Prelude.{◌≡◌, ℕ, ◌/◌, ◌%◌, ◌==◌, Bool, List, ◌++◌, length, if◌then◌else◌, ℤ}
use Rattle.std.specs.Int.{w32, cast_unsigned}
use Rattle.std.specs.Int.RustNames.{bit_and}
use Rattle.dds_base.specs.declared.endianness.Endianness.{Endianness}
use Rattle.dds_base.specs.declared.endianness.Endianness.TheVariants.{Big, Little}
use Rattle.dds_base.specs.declared.guid.EntityId.{EntityId}
use Rattle.dds_base.specs.Fields.{number}
use Rattle.rtps_wire.specs.Names.{flag_endianness, half_range, len_entity_id}

-- whether the bit is set
abbrev pub has_flag : ℕ → ℕ → Bool
has_flag flags flag = bit_and flags flag == flag

-- the flag E means little-endian
abbrev pub order_of : ℕ → Endianness
order_of flags = if has_flag flags flag_endianness then Little else Big

-- a sequence number: its high half, then its low half
abbrev pub sn_text : Endianness → ℕ → List ℕ
sn_text order n = number order w32 (n / half_range) ++ number order w32 (n % half_range)

-- a count, in two's complement
abbrev pub count_text : Endianness → ℤ → List ℕ
count_text order z = number order w32 (cast_unsigned w32 z)

-- an entity id is four octets
abbrev pub IsEntityId : EntityId → Type 0
IsEntityId e = length e.0 ≡ len_entity_id

-- The bytes begin with the text, and anything may follow.
abbrev pub BeginsWith : List ℕ → List ℕ → Type 0
BeginsWith bytes text = (rest : List ℕ) × (bytes ≡ text ++ rest)
