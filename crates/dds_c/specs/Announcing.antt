-- What a participant announces that is opened, and what is held then.
--
-- DDS 1.4, 2.2.3 (supported QoS); RTPS 2.5, 8.5 (discovery); that it comes in structs is this project's own.
use Rattle.std.specs.Prelude.{◌≡◌, ◌⊎◌, ℕ, suc, ◌==◌, ◌/◌, ◌%◌, ◌^◌, ◌<◌, ◌≤◌, Bool, true, false, not, List, [], ◌∷◌, ◌++◌, length, map, position, take, Option, Some, None, if◌then◌else◌, IsTrue, IsFalse}
use Rattle.std.specs.List.{fold, list_any}
use Rattle.std.specs.Option.{option_map}
use Rattle.dds_base.specs.declared.code.Code.{Code}
use Rattle.dds_base.specs.declared.code.Code.TheVariants.{BadParameter, Memory}
use Rattle.dds_base.specs.declared.duration.Duration.{Duration}
use Rattle.dds_base.specs.declared.guid.EntityId.{EntityId}
use Rattle.dds_base.specs.declared.guid.Guid.{Guid}
use Rattle.dds_base.specs.declared.policies.DestinationOrderQos.TheVariants.{ByReceptionTimestamp}
use Rattle.dds_base.specs.declared.policies.DurabilityQos.TheVariants.{Volatile}
use Rattle.dds_base.specs.declared.policies.LivelinessKind.TheVariants.{Automatic}
use Rattle.dds_base.specs.declared.policies.Policies.{Policies}
use Rattle.dds_base.specs.Policies.{default_presentation, infinite, no_time}
use Rattle.rtps_adapter.specs.declared.kinds.Encoding.TheVariants.{Cdr, Cdr2}
use Rattle.rtps_adapter.specs.declared.kinds.KeyField.{KeyField}
use Rattle.rtps_announcements.specs.declared.endpoint.Endpoint.{Endpoint}
use Rattle.rtps_announcements.specs.declared.locator.Locator.{Locator}
use Rattle.rtps_announcements.specs.declared.participant.Participant.{Participant}
use Rattle.rtps_announcements.specs.declared.qos.EndpointKind.{EndpointKind}
use Rattle.rtps_announcements.specs.declared.qos.EndpointKind.TheVariants.{Reader, Writer}
use Rattle.rtps_announcements.specs.WrittenEndpoints.{IsWritableEndpoint}
use Rattle.rtps_announcements.specs.Participants.{vendor_unknown}
use Rattle.rtps_discovery.specs.declared.discovery.Settings.{Settings}
use Rattle.dds_exchange.specs.Tables.{KeyFields, NoKey, Said, TheDatum, said_by}
use Rattle.dds_machine.specs.declared.reply.Reply.TheVariants.{Done}
use Rattle.dds_domain.specs.declared.opening.OurEnd.{OurEnd}
use Rattle.dds_domain.specs.declared.opening.Unopened.{Unopened}
use Rattle.dds_domain.specs.declared.opening.Unopened.TheVariants.{Endpoints, Memory as NoMemory, Settings as NoSettings}
use Rattle.dds_domain.specs.Opening.{State as Parts, no_parts, with_end}
use Rattle.dds_domain.specs.Participants.{IsOpened, IsRefused}
use Rattle.dds_c.specs.Adapting.{field_of, fields_at, is_field, is_kind}
use Rattle.dds_c.specs.Answering.{refusing_number}
use Rattle.dds_c.specs.Opening.{max_value_of, ownership_of, reliability_of}
use Rattle.dds_c.specs.Partaking.{no_turn}
use Rattle.dds_c.specs.declared.adapting.FlatKeyField.{FlatKeyField}
use Rattle.dds_c.specs.declared.adapting.FlatKind.{FlatKind}
use Rattle.dds_c.specs.declared.member.Member.{Member}
use Rattle.dds_c.specs.declared.settings.FlatEndpoint.{FlatEndpoint}
use Rattle.dds_c.specs.declared.settings.FlatLocator.{FlatLocator}
use Rattle.dds_c.specs.declared.settings.FlatSettings.{FlatSettings}

-- ---- the participant itself

-- an address and its port
abbrev pub locator_of : FlatLocator → Locator
locator_of l = record { address = l.address; port = l.port }

-- a time in units of 2^-32 second; eight seconds where it is 0
abbrev pub lease_of : ℕ → Duration
lease_of units =
    if units == 0 then record { seconds = 8; fraction = 0 }
    else record { seconds = units / 2 ^ 32; fraction = units % 2 ^ 32 }

-- what it announces of itself: one address, and that it has each builtin endpoint of discovery and of liveliness
abbrev pub participant_of : FlatSettings → Participant
participant_of f = record {
  prefix = record { 0 = f.prefix };
  vendor = vendor_unknown;
  builtin_endpoints = 3135;
  lease = lease_of f.lease;
  metatraffic = record { address = f.address; port = f.port } ∷ [];
  default = record { address = f.address; port = f.port } ∷ [];
}

-- these are its settings, with the addresses that are told of it
pub record AreSettings (f : FlatSettings) (told : List FlatLocator) (s : Settings) : Type 0 where
  pub participant : s.participant ≡ participant_of f
  pub domain : s.domain ≡ f.domain
  pub addresses : s.addresses.items ≡ map locator_of told
  pub limits : s.limits ≡ record { of_all = 64; of_one_address = 64 }

-- ---- its writers and readers

-- what stands before a place, or all
abbrev pub cut : Option ℕ → List ℕ → List ℕ
cut None octets = octets
cut (Some len) octets = take len octets

-- the octets of a name before the first that is zero
abbrev pub name_in : List ℕ → List ℕ
name_in octets = cut (position (λ (o : ℕ). o == 0) octets) octets

-- a writer or a reader
abbrev pub kind_of : ℕ → Option EndpointKind
kind_of kind = if kind == 1 then Some Writer else if kind == 2 then Some Reader else None

-- the last octet of its entity id (RTPS 2.5, 9.3.1.2)
abbrev pub kind_octet : EndpointKind → Bool → ℕ
kind_octet Writer true = 2
kind_octet Writer false = 3
kind_octet Reader true = 7
kind_octet Reader false = 4

abbrev pub entity_of : EndpointKind → ℕ → Bool → EntityId
entity_of kind number has_key = record { 0 = 0 ∷ 0 ∷ number ∷ kind_octet kind has_key ∷ [] }

-- its GUID, by its number
abbrev pub guid_of : List ℕ → EndpointKind → ℕ → FlatEndpoint → Guid
guid_of prefix kind number f =
    record { prefix = record { 0 = prefix }; entity = entity_of kind number (not (f.carries == 1)) }

-- what it offers or asks for
abbrev pub policies_of : FlatEndpoint → Policies
policies_of f = record {
  reliability = reliability_of f.is_best_effort;
  durability = Volatile;
  liveliness = record { kind = Automatic; lease = infinite };
  ownership = ownership_of f.is_exclusive;
  strength = f.strength;
  deadline = infinite;
  latency_budget = no_time;
  destination_order = ByReceptionTimestamp;
  presentation = default_presentation;
}

-- how its values stand in octets: XCDR2 of a type in CDR2, else XCDR1
abbrev pub representation_of : ℕ → ℕ
representation_of carries = if carries == 3 then 2 else 0

-- what is announced of it
abbrev pub endpoint_of : Guid → FlatEndpoint → Endpoint
endpoint_of guid f = record {
  guid = guid;
  topic_name = name_in f.topic_name;
  type_name = name_in f.type_name;
  locators = [];
  partitions = [];
  representations = representation_of f.carries ∷ [];
  policies = policies_of f;
}

-- the row of a table that says what its topic carries
abbrev pub row_of : Guid → FlatEndpoint → FlatKind
row_of guid f = record {
  prefix = guid.prefix.0;
  entity = guid.entity.0;
  kind = f.carries;
  first_field = f.first_field;
  field_count = f.field_count;
  max_value = f.max_value;
}

-- what a row says that a topic carries
abbrev pub said_in : List KeyField → FlatKind → Said
said_in fields row =
    if row.kind == 0 then TheDatum else
    if row.kind == 1 then NoKey else
    if row.kind == 2 then KeyFields Cdr (fields_at fields row) else KeyFields Cdr2 (fields_at fields row)

-- It is the writer or the reader of this number that a struct says, and it can be announced.
pub record IsEnd (prefix : List ℕ) (fields : List KeyField) (number : ℕ) (f : FlatEndpoint) (e : OurEnd) : Type 0 where
  pub kind : kind_of f.kind ≡ Some e.end.kind
  pub endpoint : e.end.endpoint ≡ endpoint_of (guid_of prefix e.end.kind number f) f
  pub fields_are : IsTrue (is_kind (length fields) (row_of e.end.endpoint.guid f))
  pub written : IsWritableEndpoint e.end.kind e.end.endpoint
  pub carries : f.carries < 4
  pub carried : option_map said_by e.carried ≡ Some (said_in fields (row_of e.end.endpoint.guid f))
  pub max_value : e.max_value ≡ max_value_of f.max_value

-- It is none: neither a writer nor a reader, or it carries nothing that one does, or it can't be announced.
abbrev pub CantBeEnd : List ℕ → List KeyField → ℕ → FlatEndpoint → EndpointKind → Type 0
CantBeEnd prefix fields number f kind =
    IsFalse (is_kind (length fields) (row_of (guid_of prefix kind number f) f))
    ⊎ (IsWritableEndpoint kind (endpoint_of (guid_of prefix kind number f) f) → ⊥)

abbrev pub IsNoEnd : List ℕ → List KeyField → ℕ → FlatEndpoint → Type 0
IsNoEnd prefix fields number f =
    ((kind_of f.kind ≡ None) ⊎ (4 ≤ f.carries))
    ⊎ ((kind : EndpointKind) × (kind_of f.kind ≡ Some kind) × CantBeEnd prefix fields number f kind)

-- Each is that of the struct at its place, and they are numbered from 1.
pub data AreEnds : List ℕ → List KeyField → List FlatEndpoint → List OurEnd → Type 0 where
  none : (prefix : List ℕ) (fields : List KeyField) → AreEnds prefix fields [] []
  more : (prefix : List ℕ) (fields : List KeyField) (fs : List FlatEndpoint) (f : FlatEndpoint) (es : List OurEnd) (e : OurEnd)
      → AreEnds prefix fields fs es → IsEnd prefix fields (suc (length es)) f e
      → AreEnds prefix fields (fs ++ f ∷ []) (es ++ e ∷ [])

-- ---- the opening

-- a field is none
abbrev pub has_no_field : List FlatKeyField → Bool
has_no_field fields = list_any (λ (f : FlatKeyField). not (is_field f)) fields

-- what its settings and its endpoints are
pub record IsAsked (settings : FlatSettings) (told : List FlatLocator) (ends : List FlatEndpoint) (fields : List FlatKeyField)
    (said : Settings) (ours : List OurEnd) : Type 0 where
  pub settings_are : AreSettings settings told said
  pub fields_are : IsFalse (has_no_field fields)
  pub ends_are : AreEnds settings.prefix (map field_of fields) ends ours

-- It announces these settings and endpoints, knows nobody, and nothing happened yet.
pub record IsOpening (settings : FlatSettings) (told : List FlatLocator) (ends : List FlatEndpoint) (fields : List FlatKeyField)
    (m : Member) : Type 0 where
  pub said : Settings
  pub ours : List OurEnd
  pub asked : IsAsked settings told ends fields said ours
  pub opened : IsOpened said 128 (fold with_end no_parts ours) m.participant
  pub turn : m.turn ≡ no_turn
  pub reply : m.reply ≡ Done

-- the code of a participant that does not begin
abbrev pub code_of : Unopened → Code
code_of NoSettings = BadParameter
code_of (Endpoints code) = code
code_of NoMemory = Memory

-- an endpoint, behind those before it, is none, or there are more than 255
abbrev pub HasNoEnd : List ℕ → List KeyField → List FlatEndpoint → Type 0
HasNoEnd prefix fields ends =
    (255 < length ends)
    ⊎ ((fs : List FlatEndpoint) × (f : FlatEndpoint) × (rest : List FlatEndpoint) × (ends ≡ fs ++ f ∷ rest)
    × IsNoEnd prefix fields (suc (length fs)) f)

-- It begins not, for this cause.
pub record IsUnopened (settings : FlatSettings) (told : List FlatLocator) (ends : List FlatEndpoint) (fields : List FlatKeyField)
    (code : Code) : Type 0 where
  pub said : Settings
  pub ours : List OurEnd
  pub asked : IsAsked settings told ends fields said ours
  pub cause : Unopened
  pub refused : IsRefused said (fold with_end no_parts ours) cause
  pub is : code ≡ code_of cause

-- A refusal is for want of memory, as a field or an endpoint is none, or as the participant does not begin.
abbrev pub Refuses : FlatSettings → List FlatLocator → List FlatEndpoint → List FlatKeyField → Code → Type 0
Refuses settings told ends fields code =
    (code ≡ Memory)
    ⊎ (((code ≡ BadParameter)
    × (IsTrue (has_no_field fields) ⊎ HasNoEnd settings.prefix (map field_of fields) ends))
    ⊎ IsUnopened settings told ends fields code)

-- the number of the code of a refusal
pub record RefusesBy (settings : FlatSettings) (told : List FlatLocator) (ends : List FlatEndpoint) (fields : List FlatKeyField)
    (number : ℕ) : Type 0 where
  pub code : Code
  pub refuses : Refuses settings told ends fields code
  pub numbered : number ≡ refusing_number code
