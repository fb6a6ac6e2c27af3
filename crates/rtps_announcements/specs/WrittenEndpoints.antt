-- The one written form of an endpoint (RTPS 2.5, 8.5: SEDP; 9.6: parameters and their defaults).
use Rattle.std.specs.Prelude.{◌≡◌, ℕ, ◌<◌, ◌^◌, ◌==◌, ◌&&◌, Bool, true, false, not, List, [], ◌∷◌, ◌++◌, length, map, FitsSigned, pos, slice_index}
use Rattle.std.specs.Int.{w32}
use Rattle.std.specs.Ordering.{int_eq}
use Rattle.dds_base.specs.declared.endianness.Endianness.TheVariants.{Little}
use Rattle.dds_base.specs.declared.qos.OwnershipQos.{OwnershipQos}
use Rattle.dds_base.specs.declared.qos.OwnershipQos.TheVariants.{Shared, Exclusive}
use Rattle.dds_base.specs.declared.qos.ReliabilityQos.{ReliabilityQos}
use Rattle.dds_base.specs.Fields.{number}
use Rattle.dds_base.specs.Policies.{reliability_code, durability_code, ownership_code, destination_order_code, scope_code, no_time}
use Rattle.dds_base.specs.declared.policies.Policies.{Policies}
use Rattle.dds_base.specs.declared.policies.DestinationOrderQos.{DestinationOrderQos}
use Rattle.dds_base.specs.declared.duration.Duration.{Duration}
use Rattle.dds_base.specs.declared.policies.DurabilityQos.{DurabilityQos}
use Rattle.dds_base.specs.declared.policies.LivelinessQos.{LivelinessQos}
use Rattle.dds_base.specs.declared.policies.PresentationQos.{PresentationQos}
use Rattle.rtps_wire.specs.Fields.{count_text}
use Rattle.rtps_announcements.specs.Names.{max_locators, max_partitions, max_representations, pid_partition, pid_data_representation, pid_unicast_locator, pid_topic_name, pid_type_name, pid_participant_guid, pid_endpoint_guid, pid_reliability, pid_durability, pid_liveliness, pid_ownership, pid_ownership_strength, pid_deadline, pid_latency_budget, pid_destination_order, pid_presentation}
use Rattle.rtps_announcements.specs.Values.{AreListed, listed_text, IsDuration, duration_text, liveliness_text, presentation_text, IsName, guid_text, IsOfKind, participant_guid}
use Rattle.rtps_announcements.specs.Written.{Row, list_text, unless, padded_name_text, representations_text, locator_text, IsLocator}
use Rattle.rtps_announcements.specs.declared.endpoint.Endpoint.{Endpoint}
use Rattle.rtps_announcements.specs.declared.qos.EndpointKind.{EndpointKind}
use Rattle.rtps_announcements.specs.declared.qos.EndpointKind.TheVariants.{Writer, Reader}

-- DURATION_INFINITE
abbrev pub is_infinite : Duration → Bool
is_infinite d = d.seconds == 0x7fffffff && d.fraction == 0xffffffff

-- DURATION_ZERO
abbrev pub is_no_time : Duration → Bool
is_no_time d = d.seconds == 0 && d.fraction == 0

-- within an instance, neither coherent nor ordered
abbrev pub is_default_presentation : PresentationQos → Bool
is_default_presentation p = scope_code p.scope == 0 && not p.coherent_access && not p.ordered_access

-- a writer that has to be the strongest
abbrev pub needs_strength : EndpointKind → OwnershipQos → Bool
needs_strength Writer Exclusive = true
needs_strength Writer Shared = false
needs_strength Reader ownership = false

-- A strength of 0 is left out where nobody needs it.
abbrev pub leaves_out_strength : EndpointKind → Policies → Bool
leaves_out_strength kind p = int_eq p.strength (pos 0) && not (needs_strength kind p.ownership)

-- RELIABILITY, with a max_blocking_time of zero
abbrev pub reliability_row : ReliabilityQos → Row
reliability_row k = (pid_reliability, (number Little w32 (reliability_code k) ++ duration_text Little no_time) ∷ [])

-- DURABILITY
abbrev pub durability_row : DurabilityQos → Row
durability_row k = (pid_durability, number Little w32 (durability_code k) ∷ [])

-- LIVELINESS
abbrev pub liveliness_row : LivelinessQos → Row
liveliness_row l = (pid_liveliness, liveliness_text Little l ∷ [])

-- OWNERSHIP
abbrev pub ownership_row : OwnershipQos → Row
ownership_row k = (pid_ownership, number Little w32 (ownership_code k) ∷ [])

-- OWNERSHIP_STRENGTH
abbrev pub strength_row : EndpointKind → Policies → Row
strength_row kind p = (pid_ownership_strength, unless (leaves_out_strength kind p) (count_text Little p.strength))

-- DEADLINE, where it has an end
abbrev pub deadline_row : Duration → Row
deadline_row d = (pid_deadline, unless (is_infinite d) (duration_text Little d))

-- LATENCY_BUDGET, where it is not 0
abbrev pub latency_budget_row : Duration → Row
latency_budget_row d = (pid_latency_budget, unless (is_no_time d) (duration_text Little d))

-- DESTINATION_ORDER, where it is not the default
abbrev pub destination_order_row : DestinationOrderQos → Row
destination_order_row k = (
  pid_destination_order,
  unless (destination_order_code k == 0) (number Little w32 (destination_order_code k)),
)

-- PRESENTATION, where it is not the default, and zeros up to a multiple of 4
abbrev pub presentation_row : PresentationQos → Row
presentation_row p =
    (pid_presentation, unless (is_default_presentation p) (presentation_text Little p ++ 0 ∷ 0 ∷ []))

-- Four policies are always said, the others where they are not the default.
abbrev pub policy_rows : EndpointKind → Policies → List Row
policy_rows kind p =
    reliability_row p.reliability
    ∷ durability_row p.durability
    ∷ liveliness_row p.liveliness
    ∷ ownership_row p.ownership
    ∷ strength_row kind p
    ∷ deadline_row p.deadline
    ∷ latency_budget_row p.latency_budget
    ∷ destination_order_row p.destination_order
    ∷ presentation_row p.presentation
    ∷ []

-- the names of its partitions, where there is one
abbrev pub partition_row : List (List ℕ) → Row
partition_row names = (pid_partition, unless (length names == 0) (listed_text Little padded_name_text names))

-- the ids of its representations
abbrev pub representation_row : List ℕ → Row
representation_row ids = (pid_data_representation, representations_text ids ∷ [])

-- its GUID, that of its participant, its topic and its type
abbrev pub name_rows : Endpoint → List Row
name_rows e =
    (pid_endpoint_guid, guid_text e.guid ∷ [])
    ∷ (pid_participant_guid, guid_text (participant_guid e.guid.prefix) ∷ [])
    ∷ (pid_topic_name, padded_name_text e.topic_name ∷ [])
    ∷ (pid_type_name, padded_name_text e.type_name ∷ [])
    ∷ []

-- what is said of an endpoint, in this order
abbrev pub endpoint_rows : EndpointKind → Endpoint → List Row
endpoint_rows kind e =
    name_rows e ++ policy_rows kind e.policies
    ++ partition_row e.partitions
    ∷ representation_row e.representations
    ∷ (pid_unicast_locator, map locator_text e.locators)
    ∷ []

-- the payload of a DATA of SEDP that announces an endpoint of this kind
abbrev pub text_of_endpoint : EndpointKind → Endpoint → List ℕ
text_of_endpoint kind e = list_text (endpoint_rows kind e)

-- No time is negative.
pub record ArePolicies (p : Policies) : Type 0 where
  pub lease : IsDuration p.liveliness.lease
  pub strength : FitsSigned w32 p.strength
  pub deadline : IsDuration p.deadline
  pub latency_budget : IsDuration p.latency_budget

-- Each name is a name, each list short enough, no time negative, and the entity id one of this kind.
pub record IsWritableEndpoint (kind : EndpointKind) (e : Endpoint) : Type 0 where
  pub prefix : length e.guid.prefix.0 ≡ 12
  pub entity : length e.guid.entity.0 ≡ 4
  pub of_kind : IsOfKind kind (slice_index e.guid.entity.0 3)
  pub topic_name : IsName e.topic_name
  pub type_name : IsName e.type_name
  pub locators : AreListed max_locators IsLocator e.locators
  pub partitions : AreListed max_partitions IsName e.partitions
  pub representations : AreListed max_representations (λ id. id < 2 ^ 16) e.representations
  pub policies : ArePolicies e.policies
