-- The key of a value of another type (RTPS 2.5, 9.6.4.8: KeyHash; XTypes 1.3, 7.4: PLAIN_CDR and PLAIN_CDR2, and
-- 7.6.3.1.2: their identifiers).
--
-- The key fields alone in their encoding, big-endian, are the key, with zeros behind them up to sixteen octets. Where they take
-- more octets, the key is the MD5 of these. That of a list of parameters is the GUID that it names (8.5.4, 9.4.2).
use Rattle.std.specs.Prelude.{ℕ, ◌+◌, ◌-◌, ◌%◌, ◌==◌, ◌&&◌, Bool, true, false, List, [], ◌∷◌, ◌++◌, length, replicate, reverse, nat_lt, Option, None, Some, if◌then◌else◌}
use Rattle.std.specs.Option.{option_or}
use Rattle.md5.specs.Md5.{md5}
use Rattle.dds_base.specs.declared.endianness.Endianness.{Endianness}
use Rattle.dds_base.specs.declared.endianness.Endianness.TheVariants.{Big, Little}
use Rattle.dds_base.specs.declared.key.Key.{Key}
use Rattle.dds_base.specs.Bounds.{key_octets}
use Rattle.dds_base.specs.DatumAt.{key_at}
use Rattle.dds_base.specs.Fields.{octets_at, ◌>>=◌}
use Rattle.dds_base.specs.Happening.{same_key}
use Rattle.rtps_announcements.specs.ListAt.{value_in}
use Rattle.rtps_announcements.specs.Names.{pid_endpoint_guid, pid_participant_guid}
use Rattle.rtps_adapter.specs.declared.kinds.Encoding.{Encoding}
use Rattle.rtps_adapter.specs.declared.kinds.Encoding.TheVariants.{Cdr, Cdr2}
use Rattle.rtps_adapter.specs.declared.kinds.FieldSize.{FieldSize}
use Rattle.rtps_adapter.specs.declared.kinds.FieldSize.TheVariants.{One, Two, Four, Eight}
use Rattle.rtps_adapter.specs.declared.kinds.KeyField.{KeyField}
use Rattle.rtps_adapter.specs.declared.kinds.KeyRule.{KeyRule}
use Rattle.rtps_adapter.specs.declared.kinds.KeyRule.TheVariants.{Keyless, Fields, ParameterList}
use Rattle.rtps_adapter.specs.Kinds.{no_key}

-- how many octets a field takes
abbrev pub size_of : FieldSize → ℕ
size_of One = 1
size_of Two = 2
size_of Four = 4
size_of Eight = 8

-- A field begins at a multiple of its size, and in CDR2 at one of 4 where that is 8.
abbrev pub alignment_of : Encoding → FieldSize → ℕ
alignment_of Cdr size = size_of size
alignment_of Cdr2 One = 1
alignment_of Cdr2 Two = 2
alignment_of Cdr2 Four = 4
alignment_of Cdr2 Eight = 4

-- octets, and zeros up to a multiple of this
abbrev pub aligned_to : ℕ → List ℕ → List ℕ
aligned_to alignment octets = octets ++ replicate ((alignment - length octets % alignment) % alignment) 0

-- the octets of a number in big-endian order
abbrev pub in_big_endian : Endianness → List ℕ → List ℕ
in_big_endian Big octets = octets
in_big_endian Little octets = reverse octets

-- so many octets of a body behind so many others, in big-endian order; none where it ends before
unfoldable pub number_in : Endianness → ℕ → ℕ → List ℕ → Option (List ℕ)
number_in order place size body = do
  from ← octets_at place body
  x ← octets_at size from.1
  Some (in_big_endian order x.0)

-- where a field stands: in a value at its place, and in a payload that says a key alone right behind these octets of
-- the fields before it
abbrev pub place_of : Bool → KeyField → List ℕ → ℕ
place_of false f before = f.place
place_of true f before = length before

-- the key fields of a body in CDR, big-endian, behind the octets of those before them
unfoldable pub fields_in : Bool → Encoding → Endianness → List ℕ → List ℕ → List KeyField → Option (List ℕ)
fields_in is_key encoding order body octets [] = Some octets
fields_in is_key encoding order body octets (f ∷ fs) = do
  x ← number_in order (place_of is_key f (aligned_to (alignment_of encoding f.size) octets)) (size_of f.size) body
  fields_in is_key encoding order body (aligned_to (alignment_of encoding f.size) octets ++ x) fs

-- the key of the key fields
abbrev pub key_of_octets : List ℕ → Key
key_of_octets octets =
    if nat_lt key_octets (length octets) then record { 0 = md5 octets }
    else record { 0 = octets ++ replicate (key_octets - length octets) 0 }

-- the number of an encoding's big-endian representation; that of its little-endian one is the next
abbrev pub representation_of : Encoding → ℕ
representation_of Cdr = 0
representation_of Cdr2 = 6

-- the order that a representation names, where it is one of the encoding
abbrev pub order_in : Encoding → ℕ → ℕ → Option Endianness
order_in encoding first second =
    if first == 0 && second == representation_of encoding then Some Big
    else if first == 0 && second == representation_of encoding + 1 then Some Little
    else None

-- the key of a value, or of what says a key alone, by the key fields; none where it is in another representation, or
-- ends before a field does
unfoldable pub key_by_fields : Bool → Encoding → List KeyField → List ℕ → Option Key
key_by_fields is_key encoding fields (a ∷ b ∷ c ∷ d ∷ body) = do
  order ← order_in encoding a b
  octets ← fields_in is_key encoding order body [] fields
  Some (key_of_octets octets)
key_by_fields is_key encoding fields _ = None

-- the octets of the key fields of a key, where it is the key of these; an MD5 of more octets than it has is not
unfoldable pub own_octets : Encoding → List KeyField → Key → Option (List ℕ)
own_octets encoding fields k = do
  octets ← fields_in true encoding Big k.0 [] fields
  if same_key (key_of_octets octets) k then Some octets else None

-- the order that the representation of a list of parameters names: PL_CDR_BE and PL_CDR_LE
abbrev pub order_of_list : ℕ → ℕ → Option Endianness
order_of_list first second =
    if first == 0 && second == 2 then Some Big else if first == 0 && second == 3 then Some Little else None

-- the key of a list of parameters: the GUID of the endpoint that it names, or where it names none of the participant
unfoldable pub key_by_list : List ℕ → Option Key
key_by_list (a ∷ b ∷ c ∷ d ∷ body) = do
  order ← order_of_list a b
  guid ← option_or (value_in order body pid_endpoint_guid) (value_in order body pid_participant_guid)
  k ← key_at guid
  Some k.0
key_by_list _ = None

-- the key of a value, or of what says a key alone, by the rule
abbrev pub key_in : Bool → KeyRule → List ℕ → Option Key
key_in is_key Keyless value = Some no_key
key_in is_key (Fields encoding fields) value = key_by_fields is_key encoding fields.now value
key_in is_key ParameterList value = key_by_list value

-- the key of a value; none where the value has none
abbrev pub key_by : KeyRule → List ℕ → Option Key
key_by rule value = key_in false rule value

-- the key that a payload says alone, without its padding; none where it says none
abbrev pub key_alone : KeyRule → List ℕ → Option Key
key_alone rule value = key_in true rule value
