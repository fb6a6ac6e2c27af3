-- The one written form of a participant, and of who leaves (RTPS 2.5, 8.5: SPDP, SEDP; 9.6: parameters).
use Rattle.std.specs.Prelude.{◌≡◌, ◌≢◌, ℕ, ◌<◌, ◌^◌, List, [], ◌∷◌, ◌++◌, length, map, if◌then◌else◌}
use Rattle.std.specs.Int.{w32}
use Rattle.std.specs.Str.{bytes_eq}
use Rattle.dds_base.specs.declared.endianness.Endianness.TheVariants.{Little}
use Rattle.dds_base.specs.declared.guid.Guid.{Guid}
use Rattle.dds_base.specs.Fields.{number}
use Rattle.rtps_announcements.specs.Names.{max_locators, pid_participant_guid, pid_endpoint_guid, pid_protocol_version, pid_vendor_id, pid_domain_id, pid_builtin_endpoint_set, pid_participant_lease_duration, pid_metatraffic_unicast_locator, pid_default_unicast_locator}
use Rattle.rtps_announcements.specs.Participants.{protocol_major}
use Rattle.rtps_announcements.specs.Values.{AreListed, IsDuration, duration_text, guid_text, participant_guid}
use Rattle.rtps_announcements.specs.Written.{Row, list_text, locator_text, IsLocator}
use Rattle.rtps_announcements.specs.declared.locator.Locator.{Locator}
use Rattle.rtps_announcements.specs.declared.participant.Participant.{Participant}
use Rattle.rtps_announcements.specs.declared.participant.VendorId.{VendorId}

-- the minor version of the protocol that is written
abbrev pub protocol_minor : ℕ
protocol_minor = 5

-- who made it, and zeros up to a multiple of 4
abbrev pub vendor_row : VendorId → Row
vendor_row v = (pid_vendor_id, (v.0 ++ 0 ∷ 0 ∷ []) ∷ [])

-- what is said of a participant of this domain, but for its locators
abbrev pub own_rows : ℕ → Participant → List Row
own_rows domain p =
    (pid_participant_guid, guid_text (participant_guid p.prefix) ∷ [])
    ∷ (pid_protocol_version, (protocol_major ∷ protocol_minor ∷ 0 ∷ 0 ∷ []) ∷ [])
    ∷ vendor_row p.vendor
    ∷ (pid_domain_id, number Little w32 domain ∷ [])
    ∷ (pid_builtin_endpoint_set, number Little w32 p.builtin_endpoints ∷ [])
    ∷ (pid_participant_lease_duration, duration_text Little p.lease ∷ [])
    ∷ []

-- what is said of it, in this order
abbrev pub participant_rows : ℕ → Participant → List Row
participant_rows domain p =
    own_rows domain p
    ++ (pid_metatraffic_unicast_locator, map locator_text p.metatraffic)
    ∷ (pid_default_unicast_locator, map locator_text p.default)
    ∷ []

-- the payload of a DATA of SPDP that announces a participant of this domain
abbrev pub text_of_participant : ℕ → Participant → List ℕ
text_of_participant domain p = list_text (participant_rows domain p)

-- locators by which one can be reached
pub record AreReachable (ls : List Locator) : Type 0 where
  pub listed : AreListed max_locators IsLocator ls
  pub some : ls ≢ []

-- There is a locator of each of both, each is one, and the lease is not negative.
pub record IsWritableParticipant (p : Participant) : Type 0 where
  pub prefix : length p.prefix.0 ≡ 12
  pub vendor : length p.vendor.0 ≡ 2
  pub builtin_endpoints : p.builtin_endpoints < 2 ^ 32
  pub lease : IsDuration p.lease
  pub metatraffic : AreReachable p.metatraffic
  pub default : AreReachable p.default

-- the id that says which participant, or which endpoint, a list is about
abbrev pub pid_of_guid : Guid → ℕ
pid_of_guid guid =
    if bytes_eq guid.entity.0 (participant_guid guid.prefix).entity.0 then pid_participant_guid else pid_endpoint_guid

-- the payload of a DATA of SPDP or SEDP that says who leaves
abbrev pub text_of_guid : Guid → List ℕ
text_of_guid guid = list_text ((pid_of_guid guid, guid_text guid ∷ []) ∷ [])

-- twelve octets, and four
pub record IsGuid (guid : Guid) : Type 0 where
  pub prefix : length guid.prefix.0 ≡ 12
  pub entity : length guid.entity.0 ≡ 4
