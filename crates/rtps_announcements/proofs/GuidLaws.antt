-- What a list is about is read as what it names.
use Rattle.std.proofs.Common.{◌≡◌, ℕ, List, [], ◌∷◌, length, Option, Some, None, sym, ap, subst, ◌∙◌}
use Rattle.std.specs.Option.{option_or}
use Rattle.dds_base.specs.declared.endianness.Endianness.{Endianness}
use Rattle.dds_base.specs.declared.guid.Guid.{Guid}
use Rattle.dds_base.specs.declared.guid.GuidPrefix.{GuidPrefix}
use Rattle.dds_base.proofs.FieldLaws.{AreOctets}
use Rattle.rtps_wire.specs.Parameters.{Parameter, ReadsParameters, parameter_value}
use Rattle.rtps_announcements.specs.Guids.{named_value, ReadsGuid}
use Rattle.rtps_announcements.specs.ListAt.{list_at, HasParameters, value_in}
use Rattle.rtps_announcements.specs.Names.{pid_participant_guid, pid_endpoint_guid, pid_domain_tag}
use Rattle.rtps_announcements.specs.ValueAt.{said, guid_at}
use Rattle.rtps_announcements.specs.Values.{Says, guid_text, IsGuidOf}
use Rattle.rtps_announcements.proofs.EndpointLaws.{list_one, list_has}
use Rattle.rtps_announcements.proofs.ListLaws.{representation_takes, value_is, value_octets}
use Rattle.rtps_announcements.proofs.ValueLaws.{said_found, said_only, field_guid}

-- the value that names it
abbrev named_in : Endianness → List ℕ → Option (List ℕ)
named_in order list = option_or (value_in order list pid_endpoint_guid) (value_in order list pid_participant_guid)

named_is : (order : Endianness) (list rest : List ℕ) (ps : List Parameter) → ReadsParameters order list ps rest
    → named_in order list ≡ named_value ps
named_is order list rest ps r =
    ap (λ (o : Option (List ℕ)). option_or o (value_in order list pid_participant_guid))
    (value_is order pid_endpoint_guid list rest ps r)
    ∙ ap (option_or (parameter_value pid_endpoint_guid ps)) (value_is order pid_participant_guid list rest ps r)

either_octets : (a b : Option (List ℕ)) (v : List ℕ) → ((w : List ℕ) → a ≡ Some w → AreOctets w)
    → ((w : List ℕ) → b ≡ Some w → AreOctets w) → option_or a b ≡ Some v → AreOctets v
either_octets None b v at_a at_b e = at_b v e
either_octets (Some w) b v at_a at_b e = at_a v e

pub guid_found : (source : GuidPrefix) (bytes : List ℕ) (order : Endianness) (list : List ℕ) (guid : Guid)
    → length source.0 ≡ 12 → AreOctets bytes → list_at bytes ≡ Some (order, list)
    → HasParameters order (pid_domain_tag ∷ []) list
    → said None (guid_at source) (named_in order list) ≡ Some guid → ReadsGuid source bytes guid
guid_found source bytes order list guid twelve octets front has e =
    let r = representation_takes bytes order list octets front in
    let octets_in : (id : ℕ) (w : List ℕ) → value_in order list id ≡ Some w → AreOctets w =
    λ id w q. value_octets order id list w r.octets q in
    record {
      order = order;
      ps = has.ps;
      list = record {
        options = r.options;
        parameters = list;
        rest = has.rest;
        two = r.two;
        text = r.parts;
        list = has.list;
      };
      understood = has.understood;
      named = subst (λ (o : Option (List ℕ)). Says None guid_text (IsGuidOf source) o guid)
          (named_is order list has.rest has.ps has.list)
          (said_found (field_guid source twelve) None (named_in order list) guid
          (λ v q. either_octets (value_in order list pid_endpoint_guid) (value_in order list pid_participant_guid) v
          (octets_in pid_endpoint_guid) (octets_in pid_participant_guid) q) e);
    }

pub guid_only : (source : GuidPrefix) (bytes : List ℕ) (order : Endianness) (list : List ℕ) (guid : Guid)
    → length source.0 ≡ 12 → list_at bytes ≡ Some (order, list) → ReadsGuid source bytes guid
    → said None (guid_at source) (named_in order list) ≡ Some guid
guid_only source bytes order list guid twelve front r =
    let there : said None (guid_at source) (named_in r.order r.list.parameters) ≡ Some guid =
    said_only (field_guid source twelve) None (named_in r.order r.list.parameters) guid
    (subst (λ (o : Option (List ℕ)). Says None guid_text (IsGuidOf source) o guid)
    (sym (named_is r.order r.list.parameters r.list.rest r.ps r.list.list)) r.named) in
    subst (λ (x : Endianness × List ℕ). said None (guid_at source) (named_in x.0 x.1) ≡ Some guid)
    (list_one bytes r.order r.ps r.list order list front) there

pub guid_has : (source : GuidPrefix) (bytes : List ℕ) (order : Endianness) (list : List ℕ) (guid : Guid)
    → list_at bytes ≡ Some (order, list) → ReadsGuid source bytes guid
    → HasParameters order (pid_domain_tag ∷ []) list
guid_has source bytes order list guid front r =
    subst (λ (x : Endianness × List ℕ). HasParameters x.0 (pid_domain_tag ∷ []) x.1)
    (list_one bytes r.order r.ps r.list order list front)
    (list_has bytes (pid_domain_tag ∷ []) r.order r.ps r.list r.understood)
