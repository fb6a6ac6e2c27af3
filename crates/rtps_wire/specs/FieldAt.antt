-- Reading fields from left to right: what the code does, on lists. `read_message` says what it reads by the texts of
-- `Fields`. Three of them are believed: `entity_id_at` by `head_at` of rtps_discovery, and by `payload_at` and `named_at`
-- of rtps_adapter; `sn_at` by `named_at`; `count_at` by `noted_at`.
--
-- RTPS 2.5, 9.3 and 9.4.2.
use Rattle.std.specs.Prelude.{ℕ, ◌+◌, ◌*◌, List, Option, Some, None, nat_lt, if◌then◌else◌, ℤ}
use Rattle.std.specs.Int.{w32, cast_signed}
use Rattle.dds_base.specs.declared.endianness.Endianness.{Endianness}
use Rattle.dds_base.specs.declared.guid.EntityId.{EntityId}
use Rattle.dds_base.specs.declared.guid.GuidPrefix.{GuidPrefix}
use Rattle.dds_base.specs.Bounds.{max_sn}
use Rattle.dds_base.specs.Fields.{number_at, octets_at, ◌>>=◌}
use Rattle.rtps_wire.specs.Names.{half_range, len_entity_id, len_prefix}

-- four octets
unfoldable pub entity_id_at : List ℕ → Option (EntityId × List ℕ)
entity_id_at bytes = do
  x ← octets_at len_entity_id bytes
  Some (record { 0 = x.0 }, x.1)

-- twelve octets
unfoldable pub prefix_at : List ℕ → Option (GuidPrefix × List ℕ)
prefix_at bytes = do
  x ← octets_at len_prefix bytes
  Some (record { 0 = x.0 }, x.1)

-- a sequence number of at most `max_sn`
unfoldable pub sn_at : Endianness → List ℕ → Option (ℕ × List ℕ)
sn_at order bytes = do
  high ← number_at order w32 bytes
  low ← number_at order w32 high.1
  if nat_lt max_sn (high.0 * half_range + low.0) then None else Some (high.0 * half_range + low.0, low.1)

-- a count
unfoldable pub count_at : Endianness → List ℕ → Option (ℤ × List ℕ)
count_at order bytes = do
  n ← number_at order w32 bytes
  Some (cast_signed w32 n.0, n.1)
