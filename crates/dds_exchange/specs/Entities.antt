-- What entities are called at our peer, and on the network: there the kind says whether the topic has a key (RTPS 2.5, 9.3.1:
-- 0x02 and 0x07 are a user's writer and reader with a key, 0x03 and 0x04 without one).
use Rattle.std.specs.Prelude.{ℕ, ◌==◌, ◌&&◌, Bool, List, find, slice_index, slice_set, option_map, if◌then◌else◌}
use Rattle.std.specs.Option.{option_map_or}
use Rattle.dds_base.specs.declared.guid.EntityId.{EntityId}
use Rattle.dds_base.specs.declared.guid.GuidPrefix.{GuidPrefix}
use Rattle.dds_base.specs.Checked.{same_entity, same_prefix}
use Rattle.rtps_wire.specs.Names.{id_acknack}
use Rattle.dds_builtin.specs.Kinds.{Kinds}
use Rattle.dds_exchange.specs.declared.ends.OwnEnd.{OwnEnd}
use Rattle.dds_exchange.specs.declared.naming.NamedEnd.{NamedEnd}

-- the kind of an entity
abbrev pub kind_in : EntityId → ℕ
kind_in entity = slice_index entity.0 3

-- the kind with a key for one without; all others stay
abbrev pub keyed_kind : ℕ → ℕ
keyed_kind kind = if kind == 0x03 then 0x02 else if kind == 0x04 then 0x07 else kind

-- what an entity is called at our peer
abbrev pub keyed : EntityId → EntityId
keyed entity = record { 0 = slice_set entity.0 3 (keyed_kind (kind_in entity)) }

-- the kind at our peer of one on the network
abbrev pub kind_at_peer : Kinds
kind_at_peer id entity = keyed_kind (kind_in entity)

-- an endpoint of ours is called so at our peer
abbrev pub is_own : EntityId → OwnEnd → Bool
is_own entity end = same_entity (keyed end.entity) entity

-- an endpoint is of this participant, and called so at our peer
abbrev pub is_of : GuidPrefix → EntityId → NamedEnd → Bool
is_of prefix entity end = same_prefix end.guid.prefix prefix && same_entity (keyed end.guid.entity) entity

-- the kind on the network of an endpoint of ours that is called so at our peer; the same where there is none
abbrev pub own_kind : List OwnEnd → EntityId → ℕ
own_kind ends entity = option_map_or (λ (e : OwnEnd). kind_in e.entity) (find (is_own entity) ends) (kind_in entity)

-- that of an endpoint of this participant
abbrev pub far_kind : List NamedEnd → GuidPrefix → EntityId → ℕ
far_kind named prefix entity =
    option_map_or (λ (e : NamedEnd). kind_in e.guid.entity) (find (is_of prefix entity) named) (kind_in entity)

-- The kinds on the network of those that a submessage to a participant names: in an ACKNACK the reader is ours, and in all others
-- the writer is.
abbrev pub reader_kind : List OwnEnd → List NamedEnd → GuidPrefix → Kinds
reader_kind ends named to id entity = if id == id_acknack then own_kind ends entity else far_kind named to entity

abbrev pub writer_kind : List OwnEnd → List NamedEnd → GuidPrefix → Kinds
writer_kind ends named to id entity = if id == id_acknack then far_kind named to entity else own_kind ends entity
