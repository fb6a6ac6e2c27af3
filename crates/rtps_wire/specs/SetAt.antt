-- Reading a set from left to right: what the code does, on lists. Nothing here has to be believed, since
-- `read_message` says what it reads by `Sets`.
--
-- RTPS 2.5, 9.4.2 (SequenceNumberSet).
use Rattle.std.specs.Prelude.{ℕ, zero, suc, ◌||◌, List, [], ◌∷◌, Option, Some, None, nat_lt, if◌then◌else◌}
use Rattle.std.specs.Int.{w32}
use Rattle.dds_base.specs.declared.endianness.Endianness.{Endianness}
use Rattle.dds_base.specs.Fields.{number_at, ◌>>=◌}
use Rattle.dds_base.specs.FieldPairs.{mapped}
use Rattle.rtps_sets.specs.NumberSet.{NumberSet}
use Rattle.rtps_wire.specs.FieldAt.{sn_at}
use Rattle.rtps_wire.specs.Names.{max_bits}
use Rattle.rtps_wire.specs.Sets.{SetField, acknack_base, words_for, set_of}

-- as many words
unfoldable pub words_at : Endianness → ℕ → List ℕ → Option (List ℕ × List ℕ)
words_at order zero bytes = Some ([], bytes)
words_at order (suc n) bytes = do
  w ← number_at order w32 bytes
  ws ← words_at order n w.1
  Some (w.0 ∷ ws.0, ws.1)

-- a set of this base and number of bits, where both are valid, by the words there
unfoldable pub set_after : Endianness → ℕ → ℕ → List ℕ → Option (SetField × List ℕ)
set_after order base num_bits bytes = do
  w ← (if nat_lt base 1 || nat_lt max_bits num_bits then None else words_at order (words_for num_bits) bytes)
  Some (record { base = base; num_bits = num_bits; words = w.0 }, w.1)

-- a valid set, as it stands there
unfoldable pub set_field_at : Endianness → List ℕ → Option (SetField × List ℕ)
set_field_at order bytes = do
  b ← sn_at order bytes
  c ← number_at order w32 b.1
  set_after order b.0 c.0 c.1

-- the set that it stands for
unfoldable pub set_at : Endianness → List ℕ → Option (NumberSet × List ℕ)
set_at order bytes = mapped set_of (set_field_at order) bytes

-- the set of an ACKNACK, as it is read
unfoldable pub acknack_field_at : Endianness → List ℕ → Option (SetField × List ℕ)
acknack_field_at order bytes = do
  b ← sn_at order bytes
  c ← number_at order w32 b.1
  set_after order (acknack_base b.0 c.0) c.0 c.1

-- the set that it stands for
unfoldable pub acknack_set_at : Endianness → List ℕ → Option (NumberSet × List ℕ)
acknack_set_at order bytes = mapped set_of (acknack_field_at order) bytes
