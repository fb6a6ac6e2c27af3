-- The names by which a peer speaks of ends, its own and others'. One participant's number has one prefix, and one end has
-- one GUID: so no name is told with another GUID than before, and no GUID under another name. A reader that is known as
-- reliable is not told as a best-effort one, nor the other way round.
--
-- RTPS 2.5, 8.2 (GUID_t), 9.3 (GUIDPREFIX_UNKNOWN, entity kinds); DDS 1.4, 2.2.3 (RELIABILITY, not changeable).
use Rattle.std.specs.Prelude.{ℕ, ◌==◌, ◌&&◌, ◌||◌, Bool, not, if◌then◌else◌, List, [], ◌∷◌, ◌++◌}
use Rattle.std.specs.List.{list_all, list_any}
use Rattle.dds_base.specs.declared.guid.Guid.{Guid}
use Rattle.dds_base.specs.Checked.{has_kind, same_entity, same_prefix, unknown_prefix}
use Rattle.dds_machine.specs.Part.{Name, same_endpoint}

-- both, or neither
abbrev pub both_or_neither : Bool → Bool → Bool
both_or_neither a b = if a then b else not b

-- two GUIDs are one
abbrev pub same_guid : Guid → Guid → Bool
same_guid a b = same_prefix a.prefix b.prefix && same_entity a.entity b.entity

-- two names are of one participant exactly if their GUIDs have one prefix
abbrev pub agree_on_peers : Name → Name → Bool
agree_on_peers a b = both_or_neither (a.end.peer == b.end.peer) (same_prefix a.guid.prefix b.guid.prefix)

-- two names, both of writers or both of readers, are of one end exactly if they have one GUID; and of one end both say
-- that it is reliable, or neither does
abbrev pub agree_on_ends : Name → Name → Bool
agree_on_ends a b =
    if same_endpoint a.end b.end then same_guid a.guid b.guid && both_or_neither a.reliable b.reliable
    else not (same_guid a.guid b.guid)

-- no name is such: the number of a participant or of an end is 0, the prefix is that of none, or the entity is of
-- another kind
abbrev pub is_no_name : ℕ → Name → Bool
is_no_name kind name =
    (name.end.peer == 0) || (name.end.number == 0) || same_prefix name.guid.prefix unknown_prefix
    || not (has_kind kind name.guid.entity)

-- the name of an end of this kind goes with those that are known of its kind and of the other one
abbrev pub is_name_among : ℕ → List Name → List Name → Name → Bool
is_name_among kind known others name =
    not (is_no_name kind name) && list_all (λ k. agree_on_peers k name && agree_on_ends k name) known
    && list_all (λ k. agree_on_peers k name) others

-- the names, with this one
abbrev pub with_name : List Name → Name → List Name
with_name known name =
    if list_any (λ (k : Name). same_endpoint k.end name.end) known then known else known ++ name ∷ []
