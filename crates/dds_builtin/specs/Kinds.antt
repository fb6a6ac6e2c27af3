-- The kinds of entities, which stand otherwise on the network than a peer reads them (RTPS 2.5, 9.3.1: entity kinds; 9.4.5: AckNack,
-- Data, Gap, Heartbeat).
use Rattle.std.specs.Prelude.{◌≡◌, ◌⊎◌, ℕ, ◌+◌, ◌==◌, ◌||◌, List, ◌++◌, drop, take, length, flat_map, nat_le, slice_index, slice_set, Option, Some, None, if◌then◌else◌}
use Rattle.dds_base.specs.declared.guid.EntityId.{EntityId}
use Rattle.dds_base.specs.declared.guid.GuidPrefix.{GuidPrefix}
use Rattle.rtps_wire.specs.Names.{id_acknack, id_data, id_gap, id_heartbeat}
use Rattle.rtps_adapter.specs.Adapting.{IsMessage, IsNone}
use Rattle.rtps_adapter.specs.Turning.{Piece}

-- the kind of a builtin writer or reader with a key for that of a user's, and the other way round; all others stay
abbrev pub turned_kind : ℕ → ℕ
turned_kind kind =
    if kind == 0x02 then 0xc2
    else if kind == 0xc2 then 0x02
    else if kind == 0x07 then 0xc7
    else if kind == 0xc7 then 0x07
    else kind

-- where in a submessage the entity ids of a reader and a writer stand, one behind the other
abbrev pub ids_at : ℕ → Option ℕ
ids_at id =
    if id == id_acknack || (id == id_heartbeat || id == id_gap) then Some 4
    else if id == id_data then Some 8
    else None

-- which kind a reader or a writer has, by the id of the submessage that names it and by what it is called there
abbrev pub Kinds : Type 0
Kinds = ℕ → EntityId → ℕ

-- a builtin one for a user's, and the other way round
abbrev pub kind_turned : Kinds
kind_turned id entity = turned_kind (slice_index entity.0 3)

-- the entity id at a place
abbrev pub entity_at : ℕ → List ℕ → EntityId
entity_at place text = record { 0 = take 4 (drop place text) }

-- octets with two entity ids at a place, each of which has its kind: its last octet
abbrev pub with_kinds_at : Kinds → Kinds → ℕ → Option ℕ → List ℕ → List ℕ
with_kinds_at reader writer id None text = text
with_kinds_at reader writer id (Some at) text =
    if nat_le (at + 8) (length text)
    then slice_set (slice_set text (at + 3) (reader id (entity_at at text))) (at + 7) (writer id (entity_at (at + 4) text))
    else text

-- the octets of a submessage whose reader and writer have their kinds
abbrev pub turned_text : Kinds → Kinds → Piece → List ℕ
turned_text reader writer p = with_kinds_at reader writer p.id (ids_at p.id) p.text

-- The header stays, each submessage's reader and writer have their kinds, and what is not read stays.
pub record TurnsKinds (reader writer : Kinds) (bytes out : List ℕ) : Type 0 where
  pub source : GuidPrefix
  pub pieces : List Piece
  pub left : List ℕ
  pub message : IsMessage bytes source pieces left
  pub text : out ≡ message.header ++ (flat_map (turned_text reader writer) pieces ++ left)

-- What is no message stays as it is.
abbrev pub WithTheirKinds : Kinds → Kinds → List ℕ → List ℕ → Type 0
WithTheirKinds reader writer bytes out = TurnsKinds reader writer bytes out ⊎ (IsNone bytes × (out ≡ bytes))

-- Builtin ones stand for those of users, and the other way round.
abbrev pub WithKinds : List ℕ → List ℕ → Type 0
WithKinds = WithTheirKinds kind_turned kind_turned
