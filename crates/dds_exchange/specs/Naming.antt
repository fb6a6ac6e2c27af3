-- The names by which our peer speaks of endpoints of others (RTPS 2.5, 8.2: GUID_t). One gets its name when it is matched first,
-- and keeps it. Our own participant is 1, and each other has a number of its own.
use Rattle.std.specs.Prelude.{ℕ, ◌+◌, ◌^◌, ◌-◌, ◌==◌, ◌&&◌, Bool, true, false, nat_lt, min, List, ◌++◌, length, filter, find, position, slice_get, Option, Some, None, is_some, option_map, option_to_list, if◌then◌else◌}
use Rattle.std.specs.Option.{option_and_then, option_or, unwrap_or}
use Rattle.dds_base.specs.declared.endpoint.Endpoint.{Endpoint}
use Rattle.dds_base.specs.declared.guid.EntityId.{EntityId}
use Rattle.dds_base.specs.declared.guid.Guid.{Guid}
use Rattle.dds_base.specs.declared.guid.GuidPrefix.{GuidPrefix}
use Rattle.dds_base.specs.Checked.{same_entity, same_prefix}
use Rattle.dds_machine.specs.Naming.{same_guid}
use Rattle.rtps_announcements.specs.declared.qos.EndpointKind.{EndpointKind}
use Rattle.rtps_announcements.specs.declared.qos.EndpointKind.TheVariants.{Reader, Writer}
use Rattle.dds_exchange.specs.declared.ends.OwnEnd.{OwnEnd}
use Rattle.dds_exchange.specs.declared.naming.NamedEnd.{NamedEnd}

-- an endpoint of ours is called so on the network
abbrev pub has_entity : EntityId → OwnEnd → Bool
has_entity entity end = same_entity end.entity entity

-- a number that has eight bits
abbrev pub small : ℕ → Option ℕ
small n = if nat_lt n 256 then Some n else None

-- its number among those of its kind, from 1
abbrev pub end_number : EntityId → List OwnEnd → Option ℕ
end_number entity ends = option_and_then (λ place. small (place + 1)) (position (has_entity entity) ends)

-- the one of a number, from 1
abbrev pub end_at : ℕ → List OwnEnd → Option OwnEnd
end_at number ends = if number == 0 then None else slice_get ends (number - 1)

-- what one is called, behind what our GUIDs begin with
abbrev pub guid_of : GuidPrefix → OwnEnd → Guid
guid_of own end = record { prefix = own; entity = end.entity }

-- what our writer or our reader of a number is called on the network
abbrev pub guid_at : GuidPrefix → EndpointKind → ℕ → List OwnEnd → List OwnEnd → Option Guid
guid_at own Writer number writers readers = option_map (guid_of own) (end_at number writers)
guid_at own Reader number writers readers = option_map (guid_of own) (end_at number readers)

-- an endpoint of another participant is called so on the network
abbrev pub is_named : Guid → NamedEnd → Bool
is_named guid end = same_guid end.guid guid

-- it is of this participant
abbrev pub is_at : GuidPrefix → NamedEnd → Bool
is_at prefix end = same_prefix end.guid.prefix prefix

-- both are writers, or readers
abbrev pub is_kind : EndpointKind → EndpointKind → Bool
is_kind Writer Writer = true
is_kind Reader Reader = true
is_kind _ _ = false

-- how many endpoints of a kind and of a participant have names
abbrev pub count_of : GuidPrefix → EndpointKind → List NamedEnd → ℕ
count_of prefix kind named = length (filter (λ (e : NamedEnd). is_at prefix e && is_kind e.kind kind) named)

-- the place of the first endpoint of a participant; that of the next one, if there is none
abbrev pub peer_place : GuidPrefix → List NamedEnd → ℕ
peer_place prefix named = unwrap_or (position (is_at prefix) named) (length named)

-- the number of a participant: two more than that place
abbrev pub peer_for : GuidPrefix → List NamedEnd → ℕ
peer_for prefix named = min (peer_place prefix named + 2) (2 ^ 32 - 1)

-- the participant of a number
abbrev pub prefix_of : ℕ → List NamedEnd → Option GuidPrefix
prefix_of peer named =
    if nat_lt peer 2 then None else option_map (λ (e : NamedEnd). e.guid.prefix) (slice_get named (peer - 2))

-- a name for an endpoint that has none; there are 255 of a participant
abbrev pub name_for : Guid → EndpointKind → List NamedEnd → Option Endpoint
name_for guid kind named =
    option_map (λ number. record { peer = peer_for guid.prefix named; number = number })
    (small (count_of guid.prefix kind named + 1))

-- an endpoint with its name: the one that it has, or a new one
abbrev pub entry_for : Guid → EndpointKind → ℕ → List NamedEnd → Option NamedEnd
entry_for guid kind own named = option_or (find (is_named guid) named)
    (option_map (λ name. record { guid = guid; kind = kind; name = name; own = own }) (name_for guid kind named))

-- those that have names, with this one
abbrev pub with_entry : Guid → Option NamedEnd → List NamedEnd → List NamedEnd
with_entry guid entry named = if is_some (find (is_named guid) named) then named else named ++ option_to_list entry
