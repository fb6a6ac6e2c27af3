-- Reading an endpoint from a list of parameters: what the code does, on lists. Nothing here has to be believed, since
-- `read_endpoint` says what it reads by `Endpoints`.
--
-- RTPS 2.5, 8.5 and 9.6.
use Rattle.std.specs.Prelude.{◌≡◌, ℕ, List, [], Some, None, pos, slice_index}
use Rattle.std.specs.Int.{w16, w32}
use Rattle.dds_base.specs.declared.endianness.Endianness.{Endianness}
use Rattle.dds_base.specs.declared.guid.GuidPrefix.{GuidPrefix}
use Rattle.dds_base.specs.declared.qos.OwnershipQos.TheVariants.{Shared}
use Rattle.dds_base.specs.Fields.{number_at}
use Rattle.dds_base.specs.Policies.{default_presentation, infinite, no_time}
use Rattle.dds_base.specs.declared.policies.Policies.{Policies}
use Rattle.dds_base.specs.declared.policies.DestinationOrderQos.TheVariants.{ByReceptionTimestamp}
use Rattle.dds_base.specs.declared.policies.DurabilityQos.TheVariants.{Volatile}
use Rattle.rtps_wire.specs.FieldAt.{count_at}
use Rattle.rtps_announcements.specs.Endpoints.{default_liveliness, default_representations}
use Rattle.rtps_announcements.specs.ListAt.{value_in, parameters_in}
use Rattle.rtps_announcements.specs.Locators.{locators_of}
use Rattle.rtps_announcements.specs.Names.{max_partitions, max_representations, pid_partition, pid_data_representation, pid_unicast_locator, pid_topic_name, pid_type_name, pid_participant_guid, pid_endpoint_guid, pid_reliability, pid_durability, pid_liveliness, pid_ownership, pid_ownership_strength, pid_deadline, pid_latency_budget, pid_destination_order, pid_presentation}
use Rattle.rtps_announcements.specs.ValueAt.{said, partly, listed_at, padded_name_at, reliability_of, durability_of, ownership_of, destination_order_of, duration_at, liveliness_at, presentation_at, name_at, guid_at}
use Rattle.rtps_announcements.specs.Values.{default_reliability, IsOfKind, IsOfSender}
use Rattle.rtps_announcements.specs.declared.endpoint.Endpoint.{Endpoint}
use Rattle.rtps_announcements.specs.declared.qos.EndpointKind.{EndpointKind}

-- each policy is read in the first parameter of its id
pub record PoliciesAt (kind : EndpointKind) (order : Endianness) (list : List ℕ) (p : Policies) : Type 0 where
  pub reliability : said (Some (default_reliability kind)) (partly reliability_of (number_at order w32))
      (value_in order list pid_reliability) ≡ Some p.reliability
  pub durability : said (Some Volatile) (partly durability_of (number_at order w32))
      (value_in order list pid_durability) ≡ Some p.durability
  pub liveliness : said (Some default_liveliness) (liveliness_at order) (value_in order list pid_liveliness)
      ≡ Some p.liveliness
  pub ownership : said (Some Shared) (partly ownership_of (number_at order w32)) (value_in order list pid_ownership)
      ≡ Some p.ownership
  pub strength : said (Some (pos 0)) (count_at order) (value_in order list pid_ownership_strength) ≡ Some p.strength
  pub deadline : said (Some infinite) (duration_at order) (value_in order list pid_deadline) ≡ Some p.deadline
  pub latency_budget : said (Some no_time) (duration_at order) (value_in order list pid_latency_budget)
      ≡ Some p.latency_budget
  pub destination_order : said (Some ByReceptionTimestamp) (partly destination_order_of (number_at order w32))
      (value_in order list pid_destination_order) ≡ Some p.destination_order
  pub presentation : said (Some default_presentation) (presentation_at order) (value_in order list pid_presentation)
      ≡ Some p.presentation

-- the endpoint that a list of parameters announces
pub record EndpointAt (source : GuidPrefix) (kind : EndpointKind) (order : Endianness) (list : List ℕ)
    (e : Endpoint) : Type 0 where
  pub guid : said None (guid_at source) (value_in order list pid_endpoint_guid) ≡ Some e.guid
  pub of_kind : IsOfKind kind (slice_index e.guid.entity.0 3)
  pub participant : IsOfSender source (value_in order list pid_participant_guid)
  pub topic_name : said None (name_at order) (value_in order list pid_topic_name) ≡ Some e.topic_name
  pub type_name : said None (name_at order) (value_in order list pid_type_name) ≡ Some e.type_name
  pub locators : locators_of order pid_unicast_locator (parameters_in order list) ≡ e.locators
  pub partitions : said (Some []) (listed_at max_partitions order (padded_name_at order))
      (value_in order list pid_partition) ≡ Some e.partitions
  pub representations : said (Some default_representations) (listed_at max_representations order (number_at order w16))
      (value_in order list pid_data_representation) ≡ Some e.representations
  pub policies : PoliciesAt kind order list e.policies
