-- What a known name stands for, and what it goes with.
--
-- RTPS 2.5, 8.2 (GUID_t).
use Rattle.std.specs.Prelude.{ℕ, ◌-◌, ◌&&◌, Bool, not, if◌then◌else◌, List, [], ◌∷◌, ◌++◌, length, take}
use Rattle.std.specs.List.{list_all, list_any}
use Rattle.dds_machine.specs.Naming.{agree_on_ends, agree_on_peers, is_no_name}
use Rattle.dds_machine.specs.Part.{Name, Names, same_endpoint}
use Rattle.dds_names.specs.declared.named_end.NamedEnd.{NamedEnd}

-- the name of an end, its GUID, and whether it is reliable
abbrev pub name_of : NamedEnd → Name
name_of named = record { end = named.end; guid = named.guid; reliable = named.is_reliable }

-- a name and each of these agree, on participants and on ends
abbrev pub agrees_with_all : List NamedEnd → NamedEnd → Bool
agrees_with_all known name =
    list_all (λ k. agree_on_peers (name_of k) (name_of name) && agree_on_ends (name_of k) (name_of name)) known

-- they agree on participants
abbrev pub agrees_on_all_peers : List NamedEnd → NamedEnd → Bool
agrees_on_all_peers others name = list_all (λ k. agree_on_peers (name_of k) (name_of name)) others

-- the name of an end of this kind goes with these of its kind, and with these of the other one
abbrev pub goes_with : ℕ → List NamedEnd → List NamedEnd → NamedEnd → Bool
goes_with kind known others name =
    not (is_no_name kind (name_of name)) && agrees_with_all known name && agrees_on_all_peers others name

-- the end is one of these
abbrev pub has_end : List NamedEnd → NamedEnd → Bool
has_end known name = list_any (λ (k : NamedEnd). same_endpoint k.end name.end) known

-- these, with this one
abbrev pub with_end : List NamedEnd → NamedEnd → List NamedEnd
with_end known name = if has_end known name then known else known ++ name ∷ []

-- these, without the last one, if it is new
abbrev pub without_new : {X : Type 0} → Bool → List X → List X
without_new is_new names = if is_new then take (length names - 1) names else names

-- the names that are known, without that of the last writer, if it is new
abbrev pub without_new_writer : Bool → Names → Names
without_new_writer is_new names = record names { writers = without_new is_new names.writers }

-- the names that are known, without that of the last reader, if it is new
abbrev pub without_new_reader : Bool → Names → Names
without_new_reader is_new names = record names { readers = without_new is_new names.readers }
