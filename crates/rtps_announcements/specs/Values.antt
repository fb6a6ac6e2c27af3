-- What the parameters of an announcement say (RTPS 2.5, 9.3.2: Duration_t; 9.4.2: strings, octets; 9.6: which type a
-- parameter has, and its default; DDS 1.4, 2.2.3: the policies and their defaults).
use Rattle.std.specs.Prelude.{◌≡◌, ℕ, ◌+◌, ◌-◌, ◌%◌, ◌<◌, ◌≤◌, ◌^◌, Bool, true, false, List, [], ◌∷◌, ◌++◌, length, Option, Some, None, Contains, ◌⊎◌}
use Rattle.std.specs.Int.{w32}
use Rattle.std.specs.List.{AllByRecursion, flat_map}
use Rattle.dds_base.specs.declared.endianness.Endianness.{Endianness}
use Rattle.dds_base.specs.declared.guid.Guid.{Guid}
use Rattle.dds_base.specs.declared.guid.GuidPrefix.{GuidPrefix}
use Rattle.dds_base.specs.declared.qos.ReliabilityQos.{ReliabilityQos}
use Rattle.dds_base.specs.declared.qos.ReliabilityQos.TheVariants.{BestEffort, Reliable}
use Rattle.dds_base.specs.Fields.{number}
use Rattle.dds_base.specs.Policies.{liveliness_code, scope_code}
use Rattle.dds_base.specs.declared.duration.Duration.{Duration}
use Rattle.dds_base.specs.declared.policies.LivelinessQos.{LivelinessQos}
use Rattle.dds_base.specs.declared.policies.PresentationQos.{PresentationQos}
use Rattle.rtps_wire.specs.Fields.{BeginsWith}
use Rattle.rtps_announcements.specs.Names.{max_name}
use Rattle.rtps_announcements.specs.declared.qos.EndpointKind.{EndpointKind}
use Rattle.rtps_announcements.specs.declared.qos.EndpointKind.TheVariants.{Writer, Reader}

-- What a parameter says: its value begins with the text of that, and anything may follow. Where there is no such
-- parameter it is the default, if there is one.
abbrev pub Says : {X : Type 0} → Option X → (X → List ℕ) → (X → Type 0) → Option (List ℕ) → X → Type 0
Says default text Fits None x = default ≡ Some x
Says default text Fits (Some value) x = Fits x × BeginsWith value (text x)

-- whatever it is
abbrev pub Always : {X : Type 0} → X → Type 0
Always x = Unit {0}

-- ---- policies

-- A writer is reliable by default, a reader is not.
abbrev pub default_reliability : EndpointKind → ReliabilityQos
default_reliability Writer = Reliable
default_reliability Reader = BestEffort

-- The seconds are not negative.
pub record IsDuration (d : Duration) : Type 0 where
  pub seconds : d.seconds < 2 ^ 31
  pub fraction : d.fraction < 2 ^ 32

-- seconds, and a fraction in units of 2^-32 second
abbrev pub duration_text : Endianness → Duration → List ℕ
duration_text order d = number order w32 d.seconds ++ number order w32 d.fraction

-- kind, and lease_duration
abbrev pub liveliness_text : Endianness → LivelinessQos → List ℕ
liveliness_text order l = number order w32 (liveliness_code l.kind) ++ duration_text order l.lease

-- a boolean, in one octet
abbrev pub flag_text : Bool → List ℕ
flag_text false = 0 ∷ []
flag_text true = 1 ∷ []

-- access scope, coherent_access, ordered_access
abbrev pub presentation_text : Endianness → PresentationQos → List ℕ
presentation_text order p =
    number order w32 (scope_code p.scope) ++ flag_text p.coherent_access ++ flag_text p.ordered_access

-- ---- names

-- A name has at most `max_name` octets, and none of them is zero.
pub record IsName (name : List ℕ) : Type 0 where
  pub short : length name ≤ max_name
  pub no_zero : ¬ Contains name 0

-- the length with the zero at the end, the octets, and the zero
abbrev pub name_text : Endianness → List ℕ → List ℕ
name_text order name = number order w32 (length name + 1) ++ name ++ 0 ∷ []

-- the octets of a GUID
abbrev pub guid_text : Guid → List ℕ
guid_text guid = guid.prefix.0 ++ guid.entity.0

-- The last octet of an entity id says what it is: 0x02 a writer with a key, 0x03 one without; 0x07 a reader with a key,
-- 0x04 one without.
abbrev pub IsOfKind : EndpointKind → ℕ → Type 0
IsOfKind Writer octet = (octet ≡ 0x02) ⊎ (octet ≡ 0x03)
IsOfKind Reader octet = (octet ≡ 0x07) ⊎ (octet ≡ 0x04)

-- a GUID of this sender
pub record IsGuidOf (source : GuidPrefix) (guid : Guid) : Type 0 where
  pub sender : guid.prefix ≡ source
  pub len : length guid.entity.0 ≡ 4

-- ENTITYID_PARTICIPANT: the GUID of a participant itself
abbrev pub participant_guid : GuidPrefix → Guid
participant_guid source = record { prefix = source; entity = record { 0 = 0x00 ∷ 0x00 ∷ 0x01 ∷ 0xc1 ∷ [] } }

-- A GUID of the participant, where there is one, is of the sender.
abbrev pub IsOfSender : GuidPrefix → Option (List ℕ) → Type 0
IsOfSender source None = Unit {0}
IsOfSender source (Some value) = (entity : List ℕ) × (length entity ≡ 4) × BeginsWith value (source.0 ++ entity)

-- ---- lists

-- the number of items, and each
abbrev pub listed_text : {X : Type 0} → Endianness → (X → List ℕ) → List X → List ℕ
listed_text order text xs = number order w32 (length xs) ++ flat_map text xs

-- at most so many items, each of which fits
pub record AreListed {X : Type 0} (max : ℕ) (Fits : X → Type 0) (xs : List X) : Type 0 where
  pub few : length xs ≤ max
  pub each : AllByRecursion Fits xs

-- a name of PARTITION, and octets that are not looked at, up to a multiple of 4
abbrev pub padded_text : Endianness → List ℕ × List ℕ → List ℕ
padded_text order x = name_text order x.0 ++ x.1

-- so many octets that the next name begins at a multiple of 4
pub record IsPadded (x : List ℕ × List ℕ) : Type 0 where
  pub name : IsName x.0
  pub octets : length x.1 ≡ 3 - length x.0 % 4
