-- Reading a participant from a list of parameters: what the code does, on lists. Nothing here has to be believed, since
-- `read_participant` says what it reads by `Participants`.
--
-- RTPS 2.5, 8.5 and 9.6.
use Rattle.std.specs.Prelude.{◌≡◌, ◌≢◌, ℕ, List, [], Some, None}
use Rattle.std.specs.Int.{w32}
use Rattle.dds_base.specs.declared.endianness.Endianness.{Endianness}
use Rattle.dds_base.specs.declared.guid.GuidPrefix.{GuidPrefix}
use Rattle.dds_base.specs.Fields.{number_at}
use Rattle.rtps_announcements.specs.ListAt.{value_in, parameters_in}
use Rattle.rtps_announcements.specs.Locators.{locators_of, or_else}
use Rattle.rtps_announcements.specs.Names.{pid_participant_guid, pid_protocol_version, pid_vendor_id, pid_domain_id, pid_domain_tag, pid_builtin_endpoint_set, pid_participant_lease_duration, pid_metatraffic_unicast_locator, pid_default_unicast_locator}
use Rattle.rtps_announcements.specs.Participants.{protocol_major, vendor_unknown, default_builtin_endpoints, default_lease}
use Rattle.rtps_announcements.specs.ValueAt.{said, octet_at, vendor_at, name_at, guid_at, duration_at}
use Rattle.rtps_announcements.specs.Values.{participant_guid}
use Rattle.rtps_announcements.specs.declared.participant.Participant.{Participant}

-- the participant that a list of parameters announces
pub record ParticipantAt (source : GuidPrefix) (domain : ℕ) (order : Endianness) (list : List ℕ)
    (p : Participant) : Type 0 where
  pub sender : p.prefix ≡ source
  pub guid : said None (guid_at source) (value_in order list pid_participant_guid) ≡ Some (participant_guid source)
  pub version : said (Some protocol_major) octet_at (value_in order list pid_protocol_version) ≡ Some protocol_major
  pub ours : said (Some domain) (number_at order w32) (value_in order list pid_domain_id) ≡ Some domain
  pub untagged : said (Some []) (name_at order) (value_in order list pid_domain_tag) ≡ Some []
  pub vendor : said (Some vendor_unknown) vendor_at (value_in order list pid_vendor_id) ≡ Some p.vendor
  pub builtin_endpoints : said (Some default_builtin_endpoints) (number_at order w32)
      (value_in order list pid_builtin_endpoint_set) ≡ Some p.builtin_endpoints
  pub lease : said (Some default_lease) (duration_at order) (value_in order list pid_participant_lease_duration)
      ≡ Some p.lease
  pub metatraffic : locators_of order pid_metatraffic_unicast_locator (parameters_in order list) ≡ p.metatraffic
  pub reachable : p.metatraffic ≢ []
  pub default : or_else (locators_of order pid_default_unicast_locator (parameters_in order list))
      (locators_of order pid_metatraffic_unicast_locator (parameters_in order list)) ≡ p.default
