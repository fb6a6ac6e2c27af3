-- Messages: which bytes are which message, and the one written form of a message (RTPS 2.5, 8.3.2 and 9.4.4).
--
-- 0...............8...............16..............24.............31
-- |      'R'      |      'T'      |      'P'      |      'S'      |
-- |   major: 2    |     minor     |           vendor id           |
-- |             GUID prefix of the sender, 12 octets              |
-- |                        submessages ...                        |
use Rattle.std.specs.Prelude.{◌≡◌, ℕ, ◌+◌, ◌≤◌, List, [], ◌∷◌, ◌++◌, length, codes}
use Rattle.std.specs.List.{flat_map, AllByRecursion}
use Rattle.dds_base.specs.declared.guid.GuidPrefix.{GuidPrefix}
use Rattle.rtps_wire.specs.declared.message.Message.{Message}
use Rattle.rtps_wire.specs.declared.submessage.Submessage.{Submessage}
use Rattle.rtps_wire.specs.Frames.{IsFrame, IsEnd}
use Rattle.rtps_wire.specs.Submessages.{Reads, IsSpellable, spelling_of_submessage}
use Rattle.rtps_wire.specs.Names.{len_prefix, major_version, max_message, minor_version, vendor_unknown}

-- The bytes begin with this submessage, and rest is what follows it.
abbrev pub ReadsFirst : List ℕ → Submessage → List ℕ → Type 0
ReadsFirst bytes s rest =
    (id : ℕ) × (flags : ℕ) × (body : List ℕ) × IsFrame bytes id flags body rest × Reads id flags body s

-- The bytes are these submessages, up to where reading ends, and left is what stands there.
abbrev pub ReadsAll : List ℕ → List Submessage → List ℕ → Type 0
ReadsAll bytes [] left = IsEnd bytes × (left ≡ bytes)
ReadsAll bytes (s ∷ ss) left = (rest : List ℕ) × ReadsFirst bytes s rest × ReadsAll rest ss left

-- RTPS, version 2 with a minor one, vendor id, GUID prefix of the sender
abbrev pub header_text : ℕ → List ℕ → GuidPrefix → List ℕ
header_text minor vendor prefix = codes "RTPS" ++ major_version ∷ minor ∷ [] ++ vendor ++ prefix.0

-- The bytes are at most `max_message`, and begin with the header of a message of this sender: the body follows it.
pub record HasHeader (bytes : List ℕ) (source : GuidPrefix) (body : List ℕ) : Type 0 where
  pub minor : ℕ
  pub vendor : List ℕ
  pub two : length vendor ≡ 2
  pub prefix : length source.0 ≡ len_prefix
  pub header : bytes ≡ header_text minor vendor source ++ body
  pub short : length bytes ≤ max_message

-- The bytes begin with a submessage.
abbrev pub HasFrame : List ℕ → Type 0
HasFrame bytes = (id : ℕ) × (flags : ℕ) × (body : List ℕ) × (rest : List ℕ) × IsFrame bytes id flags body rest

-- The bytes are at most `max_message`, and begin with the header of a message and a submessage.
pub record HasSubmessage (bytes : List ℕ) : Type 0 where
  pub source : GuidPrefix
  pub body : List ℕ
  pub header : HasHeader bytes source body
  pub first : HasFrame body

-- The bytes are a message of at most `max_message` octets, of which reading ends at this offset.
pub record ReadsMessage (bytes : List ℕ) (m : Message) (offset : ℕ) : Type 0 where
  pub body : List ℕ
  pub left : List ℕ
  pub header : HasHeader bytes m.prefix body
  pub submessages : ReadsAll body m.submessages left
  pub stop : offset + length left ≡ length bytes

-- the one written form: version 2.5, vendor id 0
abbrev pub spelling_of : Message → List ℕ
spelling_of m = header_text minor_version vendor_unknown m.prefix ++ flat_map spelling_of_submessage m.submessages

-- what has a written form
pub record IsWritable (m : Message) : Type 0 where
  pub prefix : length m.prefix.0 ≡ len_prefix
  pub submessages : AllByRecursion IsSpellable m.submessages
  pub short : length (spelling_of m) ≤ max_message
