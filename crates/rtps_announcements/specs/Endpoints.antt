-- What is read in an announcement of an endpoint (RTPS 2.5, 8.5: SEDP; 9.6: parameters and their defaults; DDS 1.4,
-- 2.2.3: policies).
use Rattle.std.specs.Prelude.{◌≡◌, ℕ, ◌<◌, ◌^◌, List, [], ◌∷◌, map, Option, Some, None, FitsSigned, pos, slice_index}
use Rattle.std.specs.Int.{w16, w32}
use Rattle.dds_base.specs.declared.endianness.Endianness.{Endianness}
use Rattle.dds_base.specs.declared.guid.GuidPrefix.{GuidPrefix}
use Rattle.dds_base.specs.declared.qos.OwnershipQos.TheVariants.{Shared}
use Rattle.dds_base.specs.Fields.{number}
use Rattle.dds_base.specs.Policies.{default_presentation, reliability_code, durability_code, ownership_code, destination_order_code, infinite, no_time}
use Rattle.dds_base.specs.declared.policies.Policies.{Policies}
use Rattle.dds_base.specs.declared.policies.DestinationOrderQos.TheVariants.{ByReceptionTimestamp}
use Rattle.dds_base.specs.declared.policies.DurabilityQos.TheVariants.{Volatile}
use Rattle.dds_base.specs.declared.policies.LivelinessKind.TheVariants.{Automatic}
use Rattle.dds_base.specs.declared.policies.LivelinessQos.{LivelinessQos}
use Rattle.rtps_wire.specs.Fields.{count_text}
use Rattle.rtps_wire.specs.Parameters.{Parameter, parameter_value}
use Rattle.rtps_announcements.specs.Lists.{ReadsList, IsUnderstood}
use Rattle.rtps_announcements.specs.Locators.{locators_of}
use Rattle.rtps_announcements.specs.Names.{max_partitions, max_representations, pid_partition, pid_data_representation, pid_unicast_locator, pid_topic_name, pid_type_name, pid_participant_guid, pid_endpoint_guid, pid_reliability, pid_durability, pid_liveliness, pid_ownership, pid_ownership_strength, pid_deadline, pid_latency_budget, pid_destination_order, pid_presentation}
use Rattle.rtps_announcements.specs.Values.{Says, Always, listed_text, AreListed, padded_text, IsPadded, default_reliability, IsDuration, duration_text, liveliness_text, presentation_text, IsName, name_text, guid_text, IsGuidOf, IsOfKind, IsOfSender}
use Rattle.rtps_announcements.specs.declared.endpoint.Endpoint.{Endpoint}
use Rattle.rtps_announcements.specs.declared.qos.EndpointKind.{EndpointKind}

-- LIVELINESS by default: AUTOMATIC, with no end
abbrev pub default_liveliness : LivelinessQos
default_liveliness = record { kind = Automatic; lease = infinite }

-- Each policy is what the first parameter of its id says, or its default.
pub record SaysPolicies (kind : EndpointKind) (order : Endianness) (ps : List Parameter) (p : Policies) : Type 0 where
  pub reliability : Says (Some (default_reliability kind)) (λ k. number order w32 (reliability_code k)) Always
      (parameter_value pid_reliability ps) p.reliability
  pub durability : Says (Some Volatile) (λ k. number order w32 (durability_code k)) Always
      (parameter_value pid_durability ps) p.durability
  pub liveliness : Says (Some default_liveliness) (liveliness_text order) (λ l. IsDuration l.lease)
      (parameter_value pid_liveliness ps) p.liveliness
  pub ownership : Says (Some Shared) (λ k. number order w32 (ownership_code k)) Always
      (parameter_value pid_ownership ps) p.ownership
  pub strength : Says (Some (pos 0)) (count_text order) (λ z. FitsSigned w32 z)
      (parameter_value pid_ownership_strength ps) p.strength
  pub deadline : Says (Some infinite) (duration_text order) IsDuration (parameter_value pid_deadline ps) p.deadline
  pub latency_budget : Says (Some no_time) (duration_text order) IsDuration
      (parameter_value pid_latency_budget ps) p.latency_budget
  pub destination_order : Says (Some ByReceptionTimestamp) (λ k. number order w32 (destination_order_code k)) Always
      (parameter_value pid_destination_order ps) p.destination_order
  pub presentation : Says (Some default_presentation) (presentation_text order) Always
      (parameter_value pid_presentation ps) p.presentation

-- XCDR1
abbrev pub xcdr1 : ℕ
xcdr1 = 0

-- DATA_REPRESENTATION by default: XCDR1 alone
abbrev pub default_representations : List ℕ
default_representations = xcdr1 ∷ []

-- PARTITION has these names, each before octets that are not looked at. By default there is none.
pub record SaysPartitions (order : Endianness) (value : Option (List ℕ)) (names : List (List ℕ)) : Type 0 where
  pub padded : List (List ℕ × List ℕ)
  pub are : map (λ x. x.0) padded ≡ names
  pub says : Says (Some []) (listed_text order (padded_text order)) (AreListed max_partitions IsPadded) value padded

-- the bytes are an announcement of this endpoint of this kind by this sender
pub record ReadsEndpoint (source : GuidPrefix) (kind : EndpointKind) (bytes : List ℕ) (e : Endpoint) : Type 0 where
  pub order : Endianness
  pub ps : List Parameter
  pub list : ReadsList bytes order ps
  pub understood : IsUnderstood [] ps
  pub guid : Says None guid_text (IsGuidOf source) (parameter_value pid_endpoint_guid ps) e.guid
  pub of_kind : IsOfKind kind (slice_index e.guid.entity.0 3)
  pub participant : IsOfSender source (parameter_value pid_participant_guid ps)
  pub topic_name : Says None (name_text order) IsName (parameter_value pid_topic_name ps) e.topic_name
  pub type_name : Says None (name_text order) IsName (parameter_value pid_type_name ps) e.type_name
  pub locators : locators_of order pid_unicast_locator ps ≡ e.locators
  pub partitions : SaysPartitions order (parameter_value pid_partition ps) e.partitions
  pub representations : Says (Some default_representations) (listed_text order (number order w16))
      (AreListed max_representations (λ id. id < 2 ^ 16)) (parameter_value pid_data_representation ps) e.representations
  pub policies : SaysPolicies kind order ps e.policies
