-- An announcement of a participant is read as what it says.
use Rattle.std.proofs.Common.{◌≡◌, ℕ, List, [], ◌∷◌, length, Some, None, sym, ap, subst, ◌∙◌}
use Rattle.dds_base.specs.declared.endianness.Endianness.{Endianness}
use Rattle.dds_base.specs.declared.guid.GuidPrefix.{GuidPrefix}
use Rattle.dds_base.proofs.FieldLaws.{AreOctets, field_u32}
use Rattle.rtps_wire.specs.Parameters.{Parameter}
use Rattle.rtps_announcements.specs.ListAt.{list_at, HasParameters, parameters_in}
use Rattle.rtps_announcements.specs.Locators.{locators_of, or_else}
use Rattle.rtps_announcements.specs.Names.{pid_participant_guid, pid_protocol_version, pid_vendor_id, pid_domain_id, pid_domain_tag, pid_builtin_endpoint_set, pid_participant_lease_duration, pid_metatraffic_unicast_locator, pid_default_unicast_locator}
use Rattle.rtps_announcements.specs.ParticipantAt.{ParticipantAt}
use Rattle.rtps_announcements.specs.Participants.{ReadsParticipant, protocol_major, vendor_unknown, default_builtin_endpoints, default_lease}
use Rattle.rtps_announcements.specs.Values.{participant_guid}
use Rattle.rtps_announcements.specs.declared.participant.Participant.{Participant}
use Rattle.rtps_announcements.proofs.EndpointLaws.{Listed, there_found, there_only, there_gathered, there_again, list_only, list_one, list_has}
use Rattle.rtps_announcements.proofs.ListLaws.{representation_takes, parameters_are}
use Rattle.rtps_announcements.proofs.ValueLaws.{field_duration, field_name, field_guid, field_vendor, field_octet}

pub participant_found : (source : GuidPrefix) (domain : ℕ) (bytes : List ℕ) (order : Endianness) (list : List ℕ)
    (p : Participant) → length source.0 ≡ 12 → AreOctets bytes → list_at bytes ≡ Some (order, list)
    → HasParameters order (pid_domain_tag ∷ []) list → ParticipantAt source domain order list p
    → ReadsParticipant source domain bytes p
participant_found source domain bytes order list p twelve octets front has at =
    let r = representation_takes bytes order list octets front in
    let l : Listed order list has.ps = record { rest = has.rest; reads = has.list; octets = r.octets } in
    record {
      order = order;
      ps = has.ps;
      list = record {
        options = r.options;
        parameters = list;
        rest = has.rest;
        two = r.two;
        text = r.parts;
        list = has.list;
      };
      understood = has.understood;
      sender = at.sender;
      guid = there_found (field_guid source twelve) None pid_participant_guid order list has.ps l
          (participant_guid source) at.guid;
      version = there_found field_octet (Some protocol_major) pid_protocol_version order list has.ps l protocol_major
          at.version;
      ours = there_found (field_u32 order) (Some domain) pid_domain_id order list has.ps l domain at.ours;
      untagged = there_found (field_name order) (Some []) pid_domain_tag order list has.ps l [] at.untagged;
      vendor = there_found field_vendor (Some vendor_unknown) pid_vendor_id order list has.ps l p.vendor at.vendor;
      builtin_endpoints = there_found (field_u32 order) (Some default_builtin_endpoints) pid_builtin_endpoint_set order
          list has.ps l p.builtin_endpoints at.builtin_endpoints;
      lease = there_found (field_duration order) (Some default_lease) pid_participant_lease_duration order list has.ps l
          p.lease at.lease;
      metatraffic = there_gathered pid_metatraffic_unicast_locator order list has.ps l p.metatraffic at.metatraffic;
      reachable = at.reachable;
      default = ap (λ (qs : List Parameter). or_else (locators_of order pid_default_unicast_locator qs) p.metatraffic)
          (sym (parameters_are order list has.rest has.ps has.list))
          ∙ ap (or_else (locators_of order pid_default_unicast_locator (parameters_in order list))) (sym at.metatraffic)
          ∙ at.default;
    }

pub participant_only : (source : GuidPrefix) (domain : ℕ) (bytes : List ℕ) (order : Endianness) (list : List ℕ)
    (p : Participant) → length source.0 ≡ 12 → AreOctets bytes → list_at bytes ≡ Some (order, list)
    → ReadsParticipant source domain bytes p → ParticipantAt source domain order list p
participant_only source domain bytes order list p twelve octets front r =
    let taken = representation_takes bytes r.order r.list.parameters octets (list_only bytes r.order r.ps r.list) in
    let l : Listed r.order r.list.parameters r.ps =
    record { rest = r.list.rest; reads = r.list.list; octets = taken.octets } in
    let at : ParticipantAt source domain r.order r.list.parameters p =
    record {
      sender = r.sender;
      guid = there_only (field_guid source twelve) None pid_participant_guid r.order r.list.parameters r.ps l
          (participant_guid source) r.guid;
      version = there_only field_octet (Some protocol_major) pid_protocol_version r.order r.list.parameters r.ps l
          protocol_major r.version;
      ours = there_only (field_u32 r.order) (Some domain) pid_domain_id r.order r.list.parameters r.ps l domain r.ours;
      untagged = there_only (field_name r.order) (Some []) pid_domain_tag r.order r.list.parameters r.ps l []
          r.untagged;
      vendor = there_only field_vendor (Some vendor_unknown) pid_vendor_id r.order r.list.parameters r.ps l p.vendor
          r.vendor;
      builtin_endpoints = there_only (field_u32 r.order) (Some default_builtin_endpoints) pid_builtin_endpoint_set
          r.order r.list.parameters r.ps l p.builtin_endpoints r.builtin_endpoints;
      lease = there_only (field_duration r.order) (Some default_lease) pid_participant_lease_duration r.order
          r.list.parameters r.ps l p.lease r.lease;
      metatraffic = there_again pid_metatraffic_unicast_locator r.order r.list.parameters r.ps l p.metatraffic
          r.metatraffic;
      reachable = r.reachable;
      default = ap (λ (qs : List Parameter). or_else (locators_of r.order pid_default_unicast_locator qs)
          (locators_of r.order pid_metatraffic_unicast_locator qs))
          (parameters_are r.order r.list.parameters r.list.rest r.ps r.list.list)
          ∙ ap (or_else (locators_of r.order pid_default_unicast_locator r.ps)) r.metatraffic ∙ r.default;
    } in
    subst (λ (x : Endianness × List ℕ). ParticipantAt source domain x.0 x.1 p)
    (list_one bytes r.order r.ps r.list order list front) at

pub participant_has : (source : GuidPrefix) (domain : ℕ) (bytes : List ℕ) (order : Endianness) (list : List ℕ)
    (p : Participant) → list_at bytes ≡ Some (order, list) → ReadsParticipant source domain bytes p
    → HasParameters order (pid_domain_tag ∷ []) list
participant_has source domain bytes order list p front r =
    subst (λ (x : Endianness × List ℕ). HasParameters x.0 (pid_domain_tag ∷ []) x.1)
    (list_one bytes r.order r.ps r.list order list front)
    (list_has bytes (pid_domain_tag ∷ []) r.order r.ps r.list r.understood)
