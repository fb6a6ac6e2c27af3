-- Our writers and readers, as a participant announces them (DDS 1.4, 2.2.3: supported QoS; RTPS 2.5, 8.5.4: SEDP; 9.3.1.2:
-- entityKind).
use Rattle.std.specs.Prelude.{◌≡◌, ℕ, suc, Bool, true, false, List, [], ◌∷◌, ◌++◌, length, Some, pos}
use Rattle.std.specs.Option.{option_map}
use Rattle.dds_base.specs.declared.guid.EntityId.{EntityId}
use Rattle.dds_base.specs.declared.guid.GuidPrefix.{GuidPrefix}
use Rattle.dds_base.specs.declared.policies.DestinationOrderQos.TheVariants.{ByReceptionTimestamp}
use Rattle.dds_base.specs.declared.policies.DurabilityQos.TheVariants.{Volatile}
use Rattle.dds_base.specs.declared.policies.LivelinessKind.TheVariants.{Automatic}
use Rattle.dds_base.specs.declared.policies.Policies.{Policies}
use Rattle.dds_base.specs.declared.qos.OwnershipQos.TheVariants.{Shared}
use Rattle.dds_base.specs.declared.qos.ReliabilityQos.TheVariants.{Reliable}
use Rattle.dds_base.specs.Bounds.{usual_value}
use Rattle.dds_base.specs.Policies.{default_presentation, infinite, no_time}
use Rattle.rtps_adapter.specs.declared.kinds.Encoding.TheVariants.{Cdr, Cdr2}
use Rattle.rtps_announcements.specs.declared.endpoint.Endpoint.{Endpoint}
use Rattle.rtps_announcements.specs.declared.qos.EndpointKind.{EndpointKind}
use Rattle.rtps_announcements.specs.declared.qos.EndpointKind.TheVariants.{Reader, Writer}
use Rattle.rtps_announcements.specs.WrittenEndpoints.{IsWritableEndpoint}
use Rattle.dds_exchange.specs.Opening.{CanHold}
use Rattle.dds_exchange.specs.Tables.{KeyFields, NoKey, Said, TheDatum, said_by}
use Rattle.dds_domain.specs.declared.opening.OurEnd.{OurEnd}
use Rattle.dds_live.specs.declared.ends.Carries.{Carries}
use Rattle.dds_live.specs.declared.ends.Carries.TheVariants.{Datum, Keyed, Keyless}
use Rattle.dds_live.specs.declared.ends.EndSettings.{EndSettings}

-- where nothing is said: reliable, and else as the standard's defaults are
abbrev pub usual_policies : Policies
usual_policies = record {
  reliability = Reliable;
  durability = Volatile;
  liveliness = record { kind = Automatic; lease = infinite };
  ownership = Shared;
  strength = pos 0;
  deadline = infinite;
  latency_budget = no_time;
  destination_order = ByReceptionTimestamp;
  presentation = default_presentation;
}

-- of a type without a key, whose values are not long
pub record IsUsual (kind : EndpointKind) (topic_name type_name : List ℕ) (e : EndSettings) : Type 0 where
  pub kind_is : e.kind ≡ kind
  pub topic : e.topic_name.now ≡ topic_name
  pub of_type : e.type_name.now ≡ type_name
  pub carries : e.carries ≡ Keyless
  pub policies : e.policies ≡ usual_policies
  pub values : e.max_value ≡ usual_value

-- what it says that a topic carries
abbrev pub said_in : Carries → Said
said_in Datum = TheDatum
said_in Keyless = NoKey
said_in (Keyed encoding fields) = KeyFields encoding fields.now

abbrev pub has_key : Carries → Bool
has_key Keyless = false
has_key carries = true

-- how values stand in octets: XCDR2 of a type in CDR2, else XCDR1
abbrev pub representation_of : Carries → ℕ
representation_of (Keyed Cdr2 fields) = 2
representation_of carries = 0

-- the last octet of an entity id
abbrev pub kind_octet : EndpointKind → Bool → ℕ
kind_octet Writer true = 2
kind_octet Writer false = 3
kind_octet Reader true = 7
kind_octet Reader false = 4

-- the entity id, by its number
abbrev pub entity_of : EndpointKind → ℕ → Bool → EntityId
entity_of kind number keyed = record { 0 = 0 ∷ 0 ∷ number ∷ kind_octet kind keyed ∷ [] }

-- what is announced of it
abbrev pub endpoint_of : GuidPrefix → ℕ → EndSettings → Endpoint
endpoint_of prefix number e = record {
  guid = record { prefix = prefix; entity = entity_of e.kind number (has_key e.carries) };
  topic_name = e.topic_name.now;
  type_name = e.type_name.now;
  locators = [];
  partitions = [];
  representations = representation_of e.carries ∷ [];
  policies = e.policies;
}

-- It is the writer or the reader of this number that is said so: it can be announced, and our peer holds to what it offers or asks
-- for.
pub record IsEnd (prefix : GuidPrefix) (number : ℕ) (e : EndSettings) (o : OurEnd) : Type 0 where
  pub kind : o.end.kind ≡ e.kind
  pub endpoint : o.end.endpoint ≡ endpoint_of prefix number e
  pub written : IsWritableEndpoint o.end.kind o.end.endpoint
  pub held : CanHold e.policies
  pub carried : option_map said_by o.carried ≡ Some (said_in e.carries)
  pub max_value : o.max_value ≡ e.max_value

-- Each is the one that is said at its place, and they are numbered from 1.
pub data AreEnds : GuidPrefix → List EndSettings → List OurEnd → Type 0 where
  none : (prefix : GuidPrefix) → AreEnds prefix [] []
  more : (prefix : GuidPrefix) (es : List EndSettings) (e : EndSettings) (os : List OurEnd) (o : OurEnd)
      → AreEnds prefix es os → IsEnd prefix (suc (length os)) e o → AreEnds prefix (es ++ e ∷ []) (os ++ o ∷ [])
