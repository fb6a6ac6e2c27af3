-- What is read in an announcement of a participant (RTPS 2.5, 8.5: SPDP; 9.6: parameters and their defaults).
use Rattle.std.specs.Prelude.{◌≡◌, ◌≢◌, ℕ, ◌<◌, ◌^◌, List, [], ◌∷◌, length, Some, None}
use Rattle.std.specs.Int.{w32}
use Rattle.dds_base.specs.declared.endianness.Endianness.{Endianness}
use Rattle.dds_base.specs.declared.guid.GuidPrefix.{GuidPrefix}
use Rattle.dds_base.specs.Fields.{number}
use Rattle.dds_base.specs.declared.duration.Duration.{Duration}
use Rattle.rtps_wire.specs.Parameters.{Parameter, parameter_value}
use Rattle.rtps_announcements.specs.Lists.{ReadsList, IsUnderstood}
use Rattle.rtps_announcements.specs.Locators.{locators_of, or_else}
use Rattle.rtps_announcements.specs.Names.{pid_participant_guid, pid_protocol_version, pid_vendor_id, pid_domain_id, pid_domain_tag, pid_builtin_endpoint_set, pid_participant_lease_duration, pid_metatraffic_unicast_locator, pid_default_unicast_locator}
use Rattle.rtps_announcements.specs.Values.{Says, Always, IsDuration, duration_text, IsName, name_text, guid_text, IsGuidOf, participant_guid}
use Rattle.rtps_announcements.specs.declared.participant.Participant.{Participant}
use Rattle.rtps_announcements.specs.declared.participant.VendorId.{VendorId}

-- the major version of the protocol
abbrev pub protocol_major : ℕ
protocol_major = 2

-- VENDORID_UNKNOWN
abbrev pub vendor_unknown : VendorId
vendor_unknown = record { 0 = 0 ∷ 0 ∷ [] }

-- the builtin endpoints of a participant that does not say which it has: those of SPDP and of publications and
-- subscriptions of SEDP, by the bits 0 to 5
abbrev pub default_builtin_endpoints : ℕ
default_builtin_endpoints = 0x3f

-- the lease of a participant that does not say it: 100 seconds
abbrev pub default_lease : Duration
default_lease = record { seconds = 100; fraction = 0 }

-- the bytes are an announcement of this participant of this domain by this sender
pub record ReadsParticipant (source : GuidPrefix) (domain : ℕ) (bytes : List ℕ) (p : Participant) : Type 0 where
  pub order : Endianness
  pub ps : List Parameter
  pub list : ReadsList bytes order ps
  pub understood : IsUnderstood (pid_domain_tag ∷ []) ps
  pub sender : p.prefix ≡ source
  pub guid : Says None guid_text (IsGuidOf source) (parameter_value pid_participant_guid ps) (participant_guid source)
  pub version : Says (Some protocol_major) (λ major. major ∷ []) Always (parameter_value pid_protocol_version ps)
      protocol_major
  pub ours : Says (Some domain) (number order w32) (λ n. n < 2 ^ 32) (parameter_value pid_domain_id ps) domain
  pub untagged : Says (Some []) (name_text order) IsName (parameter_value pid_domain_tag ps) []
  pub vendor : Says (Some vendor_unknown) (λ v. v.0) (λ v. length v.0 ≡ 2) (parameter_value pid_vendor_id ps) p.vendor
  pub builtin_endpoints : Says (Some default_builtin_endpoints) (number order w32) (λ n. n < 2 ^ 32)
      (parameter_value pid_builtin_endpoint_set ps) p.builtin_endpoints
  pub lease : Says (Some default_lease) (duration_text order) IsDuration
      (parameter_value pid_participant_lease_duration ps) p.lease
  pub metatraffic : locators_of order pid_metatraffic_unicast_locator ps ≡ p.metatraffic
  pub reachable : p.metatraffic ≢ []
  pub default : or_else (locators_of order pid_default_unicast_locator ps) p.metatraffic ≡ p.default
