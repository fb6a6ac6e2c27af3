-- What a message says of its sender by SPDP (RTPS 2.5, 8.5.3: SPDP; 8.3.4: the message receiver; 9.4.5: Data, InfoDestination).
use Rattle.std.specs.Prelude.{◌≡◌, ℕ, ◌%◌, ◌==◌, ◌&&◌, ◌||◌, Bool, true, false, not, List, [], ◌∷◌, is_some, nat_lt, slice_index, unwrap_or, Option, Some, None, MatchOption, if◌then◌else◌}
use Rattle.std.specs.Int.{w16}
use Rattle.std.specs.Option.{option_map}
use Rattle.dds_base.specs.declared.endianness.Endianness.{Endianness}
use Rattle.dds_base.specs.declared.guid.EntityId.{EntityId}
use Rattle.dds_base.specs.declared.guid.GuidPrefix.{GuidPrefix}
use Rattle.dds_base.specs.Checked.{same_entity, same_prefix}
use Rattle.dds_base.specs.Fields.{number_at, octets_at, ◌>>=◌}
use Rattle.rtps_wire.specs.declared.submessage.Submessage.{Submessage}
use Rattle.rtps_wire.specs.declared.submessage.Submessage.TheVariants.{InfoDst}
use Rattle.rtps_wire.specs.Fields.{has_flag, order_of}
use Rattle.rtps_wire.specs.FieldAt.{entity_id_at}
use Rattle.rtps_wire.specs.Frames.{IsFrame, IsEnd}
use Rattle.rtps_wire.specs.Names.{flag_inline_qos, id_data, least_octets_to_inline_qos, pid_status_info}
use Rattle.rtps_wire.specs.ParametersAt.{parameters_at}
use Rattle.rtps_wire.specs.Submessages.{Reads}
use Rattle.rtps_announcements.specs.ListAt.{value_in}
use Rattle.rtps_announcements.specs.Participants.{ReadsParticipant}
use Rattle.rtps_discovery.specs.declared.spdp.Said.{Said}
use Rattle.rtps_discovery.specs.declared.spdp.Said.TheVariants.{Announces, Leaves}

-- ENTITYID_SPDP_BUILTIN_PARTICIPANT_WRITER
abbrev pub spdp_writer : EntityId
spdp_writer = record { 0 = 0 ∷ 1 ∷ 0 ∷ 0xc2 ∷ [] }

-- ENTITYID_SPDP_BUILTIN_PARTICIPANT_READER
abbrev pub spdp_reader : EntityId
spdp_reader = record { 0 = 0 ∷ 1 ∷ 0 ∷ 0xc7 ∷ [] }

-- GUIDPREFIX_UNKNOWN: every participant
abbrev pub everybody : GuidPrefix
everybody = record { 0 = 0 ∷ 0 ∷ 0 ∷ 0 ∷ 0 ∷ 0 ∷ 0 ∷ 0 ∷ 0 ∷ 0 ∷ 0 ∷ 0 ∷ [] }

-- the writer of a DATA, and what follows its head; none where that is cut
unfoldable pub head_at : Endianness → List ℕ → Option (EntityId × List ℕ)
head_at order body = do
  extra ← number_at order w16 body
  way ← number_at order w16 extra.1
  reader ← entity_id_at way.1
  writer ← entity_id_at reader.1
  rest ← (if nat_lt way.0 least_octets_to_inline_qos then None else octets_at way.0 way.1)
  Some (writer.0, rest.1)

-- whether the parameters say that the instance is disposed of or unregistered: the two low bits of the status info
abbrev pub has_status : Endianness → List ℕ → Bool
has_status order parameters =
    not (slice_index (unwrap_or (value_in order parameters pid_status_info) []) 3 % 4 == 0)

-- whether a DATA says the end of its instance, and its payload; none where a parameter is not valid
unfoldable pub content_at : ℕ → List ℕ → Option (Bool × List ℕ)
content_at flags rest =
    if has_flag flags flag_inline_qos
    then option_map (λ x. (has_status (order_of flags) rest, x.1)) (parameters_at (order_of flags) rest)
    else Some (false, rest)

-- the same of a DATA of the SPDP writer
unfoldable pub spdp_at : ℕ → List ℕ → Option (Bool × List ℕ)
spdp_at flags body = do
  head ← head_at (order_of flags) body
  if same_entity head.0 spdp_writer then content_at flags head.1 else None

-- The submessage says this by SPDP: that its sender is there, as a participant of the domain, or that it leaves.
abbrev pub IsSaid : GuidPrefix → ℕ → ℕ → ℕ → List ℕ → Said → Type 0
IsSaid source domain id flags body (Announces p) =
    (payload : List ℕ) × (id ≡ id_data) × (spdp_at flags body ≡ Some (false, payload))
    × ReadsParticipant source domain payload p
IsSaid source domain id flags body Leaves =
    (payload : List ℕ) × (id ≡ id_data) × (spdp_at flags body ≡ Some (true, payload))

-- a submessage, as it is read, and what it says by SPDP
pub record Part : Type 0 where
  pub id : ℕ
  pub flags : ℕ
  pub body : List ℕ
  pub read : Submessage
  pub said : Option Said

-- It says this, or nothing.
abbrev pub Says : GuidPrefix → ℕ → Part → Type 0
Says source domain p =
    MatchOption p.said ((s : Said) → IsSaid source domain p.id p.flags p.body s → ⊥)
    (λ s. IsSaid source domain p.id p.flags p.body s)

-- The bytes begin with these submessages, and rest is what follows them.
abbrev pub Begins : GuidPrefix → ℕ → List ℕ → List Part → List ℕ → Type 0
Begins source domain bytes [] rest = bytes ≡ rest
Begins source domain bytes (p ∷ ps) rest =
    (after : List ℕ) × IsFrame bytes p.id p.flags p.body after × Reads p.id p.flags p.body p.read × Says source domain p
    × Begins source domain after ps rest

-- whether what follows a submessage is for us: an INFO_DST says for whom it is
abbrev pub for_us_after : GuidPrefix → Bool → Submessage → Bool
for_us_after own for_us (InfoDst prefix) = same_prefix prefix own || same_prefix prefix everybody
for_us_after own for_us s = for_us

-- what the first that is for us and says something says
abbrev pub first_said : GuidPrefix → Bool → List Part → Option Said
first_said own for_us [] = None
first_said own for_us (p ∷ ps) =
    if for_us && is_some p.said then p.said else first_said own (for_us_after own for_us p.read) ps

-- A message with this body says this of its sender to us first, or nothing.
pub record SaysFirst (own source : GuidPrefix) (domain : ℕ) (body : List ℕ) (o : Option Said) : Type 0 where
  pub parts : List Part
  pub rest : List ℕ
  pub begins : Begins source domain body parts rest
  pub first : first_said own true parts ≡ o
  pub ends : is_some o ≡ false → IsEnd rest
