-- The keys of builtin topics, and what is written of an endpoint of ours (RTPS 2.5, 8.5.4: the keys of SEDP; 9.6:
-- ParticipantMessageData).
use Rattle.std.specs.Prelude.{◌≡◌, ◌⊎◌, ℕ, ◌<◌, List, [], ◌∷◌, ◌++◌, length, take, drop, Option, Some, None}
use Rattle.dds_base.specs.declared.guid.Guid.{Guid}
use Rattle.dds_base.specs.declared.guid.GuidPrefix.{GuidPrefix}
use Rattle.dds_base.specs.declared.key.Key.{Key}
use Rattle.rtps_announcements.specs.WrittenEndpoints.{IsWritableEndpoint, text_of_endpoint}
use Rattle.rtps_matching.specs.declared.end.End.{End}

-- the key of an endpoint: the octets of its GUID
abbrev pub key_of : Guid → Key
key_of guid = record { 0 = guid.prefix.0 ++ guid.entity.0 }

-- the endpoint of a key
abbrev pub guid_of : Key → Guid
guid_of key = record { prefix = record { 0 = take 12 key.0 }; entity = record { 0 = take 4 (drop 12 key.0) } }

-- the key of a participant's message that it is alive: its prefix, and AUTOMATIC_LIVELINESS_UPDATE
abbrev pub message_key : GuidPrefix → Key
message_key prefix = record { 0 = prefix.0 ++ 0 ∷ 0 ∷ 0 ∷ 1 ∷ [] }

-- It has no written form, or one of more than 4,096 octets.
abbrev pub CantBeWritten : End → Type 0
CantBeWritten e = (IsWritableEndpoint e.kind e.endpoint → ⊥) ⊎ (4096 < length (text_of_endpoint e.kind e.endpoint))

-- what is written of it: its written form, where it has one
abbrev pub Writes : End → Option (List ℕ) → Type 0
Writes e (Some octets) = octets ≡ text_of_endpoint e.kind e.endpoint
Writes e None = CantBeWritten e
