-- Reading a datum from left to right: what the code does, on lists. By `DatumText` alone `decode_datum`,
-- `decode_datum_ref`, `decode_datum_key` and `decode_key` say what they read (`found`, `only`); `exact` says the same
-- by this reading, and `take_key` what it leaves.
--
-- RTPS 2.5, clause 10 (SerializedPayload).
use Rattle.std.specs.Prelude.{ℕ, zero, suc, List, ◌∷◌, Option, Some, None, nat_lt, if◌then◌else◌}
use Rattle.std.specs.Int.{w32}
use Rattle.dds_base.specs.declared.datum.Datum.{Datum}
use Rattle.dds_base.specs.declared.key.Key.{Key}
use Rattle.dds_base.specs.declared.endianness.Endianness.{Endianness}
use Rattle.dds_base.specs.declared.endianness.Endianness.TheVariants.{Big, Little}
use Rattle.dds_base.specs.Bounds.{greatest_value, key_octets}
use Rattle.dds_base.specs.Fields.{number_at, octets_at, ◌>>=◌}

-- the order that the representation names, and what follows the two option octets
unfoldable pub representation_at : List ℕ → Option (Endianness × List ℕ)
representation_at (zero ∷ zero ∷ x ∷ y ∷ rest) = Some (Big, rest)
representation_at (zero ∷ suc zero ∷ x ∷ y ∷ rest) = Some (Little, rest)
representation_at _ = None

-- the octets of a key
unfoldable pub key_at : List ℕ → Option (Key × List ℕ)
key_at bytes = do
  k ← octets_at key_octets bytes
  Some (record { 0 = k.0 }, k.1)

-- a datum, at whose value reading ends
unfoldable pub datum_at : List ℕ → Option Datum
datum_at bytes = do
  r ← representation_at bytes
  k ← key_at r.1
  n ← number_at r.0 w32 k.1
  v ← (if nat_lt greatest_value n.0 then None else octets_at n.0 n.1)
  Some (record { key = k.0; value = v.0 })

-- a key form
unfoldable pub key_form_at : List ℕ → Option Key
key_form_at bytes = do
  r ← representation_at bytes
  k ← key_at r.1
  Some k.0
