-- An announcement of an endpoint is read as what it says.
use Rattle.std.proofs.Common.{◌≡◌, ℕ, ◌<◌, ◌^◌, List, [], length, map, arith, Option, Some, None, refl, sym, ap, subst, ◌∙◌, pos}
use Rattle.std.specs.Int.{w16}
use Rattle.std.specs.Option.{option_map}
use Rattle.dds_base.specs.Fields.{number, number_at}
use Rattle.dds_base.specs.declared.endianness.Endianness.{Endianness}
use Rattle.dds_base.specs.declared.guid.GuidPrefix.{GuidPrefix}
use Rattle.dds_base.specs.declared.qos.OwnershipQos.TheVariants.{Shared}
use Rattle.dds_base.proofs.FieldLaws.{AreOctets, IsField, some_is, field_u16}
use Rattle.dds_base.specs.Policies.{default_presentation, infinite, no_time}
use Rattle.dds_base.specs.declared.policies.Policies.{Policies}
use Rattle.dds_base.specs.declared.policies.DestinationOrderQos.TheVariants.{ByReceptionTimestamp}
use Rattle.dds_base.specs.declared.policies.DurabilityQos.TheVariants.{Volatile}
use Rattle.rtps_wire.specs.Parameters.{Parameter, ReadsParameters, parameter_value}
use Rattle.rtps_wire.proofs.WireFields.{field_count}
use Rattle.rtps_announcements.specs.EndpointAt.{PoliciesAt, EndpointAt}
use Rattle.rtps_announcements.specs.Endpoints.{default_liveliness, default_representations, SaysPartitions, SaysPolicies, ReadsEndpoint}
use Rattle.rtps_announcements.specs.ListAt.{list_at, HasParameters, value_in, parameters_in}
use Rattle.rtps_announcements.specs.Lists.{ReadsList, IsUnderstood}
use Rattle.rtps_announcements.specs.Locators.{locators_of}
use Rattle.rtps_announcements.specs.Names.{max_partitions, max_representations, pid_partition, pid_data_representation, pid_unicast_locator, pid_topic_name, pid_type_name, pid_participant_guid, pid_endpoint_guid, pid_reliability, pid_durability, pid_liveliness, pid_ownership, pid_ownership_strength, pid_deadline, pid_latency_budget, pid_destination_order, pid_presentation}
use Rattle.rtps_announcements.specs.ValueAt.{said, listed_at, padded_at, padded_name_at}
use Rattle.rtps_announcements.specs.Values.{Says, listed_text, AreListed, padded_text, IsPadded, default_reliability, IsOfSender}
use Rattle.rtps_announcements.specs.declared.endpoint.Endpoint.{Endpoint}
use Rattle.rtps_announcements.specs.declared.locator.Locator.{Locator}
use Rattle.rtps_announcements.specs.declared.qos.EndpointKind.{EndpointKind}
use Rattle.rtps_announcements.proofs.CountLaws.{field_listed, field_padded, listed_mapped}
use Rattle.rtps_announcements.proofs.ListLaws.{representation_takes, representation_again, value_is, value_octets, parameters_are}
use Rattle.rtps_announcements.proofs.ValueLaws.{map_some, said_found, said_only, field_reliability, field_durability, field_ownership, field_destination_order, field_duration, field_liveliness, field_presentation, field_name, field_guid}

-- a list of parameters that stands there
pub record Listed (order : Endianness) (list : List ℕ) (ps : List Parameter) : Type 0 where
  pub rest : List ℕ
  pub reads : ReadsParameters order list ps rest
  pub octets : AreOctets list

pub there_found : {X : Type 0} {text : X → List ℕ} {Fits : X → Type 0} {at : List ℕ → Option (X × List ℕ)}
    → IsField text Fits at → (default : Option X) (id : ℕ) (order : Endianness) (list : List ℕ) (ps : List Parameter)
    → Listed order list ps → (x : X) → said default at (value_in order list id) ≡ Some x
    → Says default text Fits (parameter_value id ps) x
there_found {text = text} {Fits = Fits} field default id order list ps l x e =
    subst (λ (o : Option (List ℕ)). Says default text Fits o x) (value_is order id list l.rest ps l.reads)
    (said_found field default (value_in order list id) x (λ v q. value_octets order id list v l.octets q) e)

pub there_only : {X : Type 0} {text : X → List ℕ} {Fits : X → Type 0} {at : List ℕ → Option (X × List ℕ)}
    → IsField text Fits at → (default : Option X) (id : ℕ) (order : Endianness) (list : List ℕ) (ps : List Parameter)
    → Listed order list ps → (x : X) → Says default text Fits (parameter_value id ps) x
    → said default at (value_in order list id) ≡ Some x
there_only {text = text} {Fits = Fits} field default id order list ps l x h =
    said_only field default (value_in order list id) x
    (subst (λ (o : Option (List ℕ)). Says default text Fits o x) (sym (value_is order id list l.rest ps l.reads)) h)

pub there_gathered : (id : ℕ) (order : Endianness) (list : List ℕ) (ps : List Parameter) → Listed order list ps
    → (found : List Locator) → locators_of order id (parameters_in order list) ≡ found
    → locators_of order id ps ≡ found
there_gathered id order list ps l found e =
    ap (locators_of order id) (sym (parameters_are order list l.rest ps l.reads)) ∙ e

pub there_again : (id : ℕ) (order : Endianness) (list : List ℕ) (ps : List Parameter) → Listed order list ps
    → (found : List Locator) → locators_of order id ps ≡ found
    → locators_of order id (parameters_in order list) ≡ found
there_again id order list ps l found e = ap (locators_of order id) (parameters_are order list l.rest ps l.reads) ∙ e

-- ---- policies

policies_found : (kind : EndpointKind) (order : Endianness) (list : List ℕ) (ps : List Parameter)
    → Listed order list ps → (p : Policies) → PoliciesAt kind order list p → SaysPolicies kind order ps p
policies_found kind order list ps l p h = record {
  reliability = there_found (field_reliability order) (Some (default_reliability kind)) pid_reliability order list ps l
      p.reliability h.reliability;
  durability = there_found (field_durability order) (Some Volatile) pid_durability order list ps l p.durability
      h.durability;
  liveliness = there_found (field_liveliness order) (Some default_liveliness) pid_liveliness order list ps l
      p.liveliness h.liveliness;
  ownership = there_found (field_ownership order) (Some Shared) pid_ownership order list ps l p.ownership h.ownership;
  strength = there_found (field_count order) (Some (pos 0)) pid_ownership_strength order list ps l p.strength
      h.strength;
  deadline = there_found (field_duration order) (Some infinite) pid_deadline order list ps l p.deadline h.deadline;
  latency_budget = there_found (field_duration order) (Some no_time) pid_latency_budget order list ps l
      p.latency_budget h.latency_budget;
  destination_order = there_found (field_destination_order order) (Some ByReceptionTimestamp) pid_destination_order
      order list ps l p.destination_order h.destination_order;
  presentation = there_found (field_presentation order) (Some default_presentation) pid_presentation order list ps l
      p.presentation h.presentation;
}

policies_only : (kind : EndpointKind) (order : Endianness) (list : List ℕ) (ps : List Parameter)
    → Listed order list ps → (p : Policies) → SaysPolicies kind order ps p → PoliciesAt kind order list p
policies_only kind order list ps l p h = record {
  reliability = there_only (field_reliability order) (Some (default_reliability kind)) pid_reliability order list ps l
      p.reliability h.reliability;
  durability = there_only (field_durability order) (Some Volatile) pid_durability order list ps l p.durability
      h.durability;
  liveliness = there_only (field_liveliness order) (Some default_liveliness) pid_liveliness order list ps l
      p.liveliness h.liveliness;
  ownership = there_only (field_ownership order) (Some Shared) pid_ownership order list ps l p.ownership h.ownership;
  strength = there_only (field_count order) (Some (pos 0)) pid_ownership_strength order list ps l p.strength
      h.strength;
  deadline = there_only (field_duration order) (Some infinite) pid_deadline order list ps l p.deadline h.deadline;
  latency_budget = there_only (field_duration order) (Some no_time) pid_latency_budget order list ps l
      p.latency_budget h.latency_budget;
  destination_order = there_only (field_destination_order order) (Some ByReceptionTimestamp) pid_destination_order
      order list ps l p.destination_order h.destination_order;
  presentation = there_only (field_presentation order) (Some default_presentation) pid_presentation order list ps l
      p.presentation h.presentation;
}

-- ---- lists

field_representations : (order : Endianness)
    → IsField (listed_text order (number order w16)) (AreListed max_representations (λ id. id < 2 ^ 16))
    (listed_at max_representations order (number_at order w16))
field_representations order = field_listed (field_u16 order) max_representations (omega arith) order

-- the names of a list that is read with what stands behind each
names_of : (default : List (List ℕ × List ℕ)) (order : Endianness) (value : Option (List ℕ))
    → said (Some (map (λ (x : List ℕ × List ℕ). x.0) default)) (listed_at max_partitions order (padded_name_at order))
    value ≡ option_map (map (λ (x : List ℕ × List ℕ). x.0))
    (said (Some default) (listed_at max_partitions order (padded_at order)) value)
unfolding padded_name_at
names_of default order None = refl
names_of default order (Some value) =
    ap (option_map (λ (y : List (List ℕ) × List ℕ). y.0))
    (listed_mapped (λ (x : List ℕ × List ℕ). x.0) (padded_at order) max_partitions order value)
    ∙ first_of_both (listed_at max_partitions order (padded_at order) value)
  where
    first_of_both : (o : Option (List (List ℕ × List ℕ) × List ℕ))
        → option_map (λ (y : List (List ℕ) × List ℕ). y.0)
        (option_map (λ (y : List (List ℕ × List ℕ) × List ℕ). (map (λ (x : List ℕ × List ℕ). x.0) y.0, y.1)) o)
        ≡ option_map (map (λ (x : List ℕ × List ℕ). x.0))
        (option_map (λ (y : List (List ℕ × List ℕ) × List ℕ). y.0) o)
    first_of_both None = refl
    first_of_both (Some y) = refl

field_partitions : (order : Endianness)
    → IsField (listed_text order (padded_text order)) (AreListed max_partitions IsPadded)
    (listed_at max_partitions order (padded_at order))
field_partitions order = field_listed (field_padded order) max_partitions (omega arith) order

partitions_found : (order : Endianness) (list : List ℕ) (ps : List Parameter) → Listed order list ps
    → (names : List (List ℕ))
    → said (Some []) (listed_at max_partitions order (padded_name_at order)) (value_in order list pid_partition)
    ≡ Some names → SaysPartitions order (parameter_value pid_partition ps) names
partitions_found order list ps l names e =
    let m = map_some (map (λ (x : List ℕ × List ℕ). x.0)) (said (Some [])
    (listed_at max_partitions order (padded_at order)) (value_in order list pid_partition)) names
    (sym (names_of [] order (value_in order list pid_partition)) ∙ e) in
    record {
      padded = m.0;
      are = m.2;
      says = there_found (field_partitions order) (Some []) pid_partition order list ps l m.0 m.1;
    }

partitions_only : (order : Endianness) (list : List ℕ) (ps : List Parameter) → Listed order list ps
    → (names : List (List ℕ)) → SaysPartitions order (parameter_value pid_partition ps) names
    → said (Some []) (listed_at max_partitions order (padded_name_at order)) (value_in order list pid_partition)
    ≡ Some names
partitions_only order list ps l names s =
    names_of [] order (value_in order list pid_partition)
    ∙ ap (option_map (map (λ (x : List ℕ × List ℕ). x.0)))
    (there_only (field_partitions order) (Some []) pid_partition order list ps l s.padded s.says) ∙ ap Some s.are

-- ---- endpoints

pub endpoint_found : (source : GuidPrefix) (kind : EndpointKind) (bytes : List ℕ) (order : Endianness) (list : List ℕ)
    (e : Endpoint) → length source.0 ≡ 12 → AreOctets bytes → list_at bytes ≡ Some (order, list)
    → HasParameters order [] list → EndpointAt source kind order list e → ReadsEndpoint source kind bytes e
endpoint_found source kind bytes order list e twelve octets front has at =
    let r = representation_takes bytes order list octets front in
    let l : Listed order list has.ps = record { rest = has.rest; reads = has.list; octets = r.octets } in
    record {
      order = order;
      ps = has.ps;
      list = record {
        options = r.options;
        parameters = list;
        rest = has.rest;
        two = r.two;
        text = r.parts;
        list = has.list;
      };
      understood = has.understood;
      guid = there_found (field_guid source twelve) None pid_endpoint_guid order list has.ps l e.guid at.guid;
      of_kind = at.of_kind;
      participant = subst (λ (o : Option (List ℕ)). IsOfSender source o)
          (value_is order pid_participant_guid list has.rest has.ps has.list) at.participant;
      topic_name = there_found (field_name order) None pid_topic_name order list has.ps l e.topic_name at.topic_name;
      type_name = there_found (field_name order) None pid_type_name order list has.ps l e.type_name at.type_name;
      locators = there_gathered pid_unicast_locator order list has.ps l e.locators at.locators;
      partitions = partitions_found order list has.ps l e.partitions at.partitions;
      representations = there_found (field_representations order) (Some default_representations)
          pid_data_representation order list has.ps l e.representations at.representations;
      policies = policies_found kind order list has.ps l e.policies at.policies;
    }

-- where an announcement stands its representation is read
pub list_only : (bytes : List ℕ) (order : Endianness) (ps : List Parameter) (l : ReadsList bytes order ps)
    → list_at bytes ≡ Some (order, l.parameters)
list_only bytes order ps l = ap list_at l.text ∙ representation_again order l.options l.parameters l.two

-- an announcement is read in its order of bytes, from its parameters
pub list_one : (bytes : List ℕ) (order : Endianness) (ps : List Parameter) (l : ReadsList bytes order ps)
    (order' : Endianness) (list : List ℕ) → list_at bytes ≡ Some (order', list)
    → ◌≡◌ {A = Endianness × List ℕ} (order, l.parameters) (order', list)
list_one bytes order ps l order' list e = some_is _ _ (sym (list_only bytes order ps l) ∙ e)

-- a list that stands there has its parameters, all understood
pub list_has : (bytes known : List ℕ) (order : Endianness) (ps : List Parameter) (l : ReadsList bytes order ps)
    → IsUnderstood known ps → HasParameters order known l.parameters
list_has bytes known order ps l u = record { ps = ps; rest = l.rest; list = l.list; understood = u }

pub endpoint_only : (source : GuidPrefix) (kind : EndpointKind) (bytes : List ℕ) (order : Endianness) (list : List ℕ)
    (e : Endpoint) → length source.0 ≡ 12 → AreOctets bytes → list_at bytes ≡ Some (order, list)
    → ReadsEndpoint source kind bytes e → EndpointAt source kind order list e
endpoint_only source kind bytes order list e twelve octets front r =
    let octets_there = (representation_takes bytes r.order r.list.parameters octets (list_only bytes r.order r.ps r.list)).octets in
    let l : Listed r.order r.list.parameters r.ps =
    record { rest = r.list.rest; reads = r.list.list; octets = octets_there } in
    let at : EndpointAt source kind r.order r.list.parameters e =
    record {
      guid = there_only (field_guid source twelve) None pid_endpoint_guid r.order r.list.parameters r.ps l e.guid
          r.guid;
      of_kind = r.of_kind;
      participant = subst (λ (o : Option (List ℕ)). IsOfSender source o)
          (sym (value_is r.order pid_participant_guid r.list.parameters r.list.rest r.ps r.list.list)) r.participant;
      topic_name = there_only (field_name r.order) None pid_topic_name r.order r.list.parameters r.ps l e.topic_name
          r.topic_name;
      type_name = there_only (field_name r.order) None pid_type_name r.order r.list.parameters r.ps l e.type_name
          r.type_name;
      locators = there_again pid_unicast_locator r.order r.list.parameters r.ps l e.locators r.locators;
      partitions = partitions_only r.order r.list.parameters r.ps l e.partitions r.partitions;
      representations = there_only (field_representations r.order) (Some default_representations)
          pid_data_representation r.order r.list.parameters r.ps l e.representations r.representations;
      policies = policies_only kind r.order r.list.parameters r.ps l e.policies r.policies;
    } in
    subst (λ (x : Endianness × List ℕ). EndpointAt source kind x.0 x.1 e)
    (list_one bytes r.order r.ps r.list order list front) at

pub endpoint_has : (source : GuidPrefix) (kind : EndpointKind) (bytes : List ℕ) (order : Endianness) (list : List ℕ)
    (e : Endpoint) → list_at bytes ≡ Some (order, list) → ReadsEndpoint source kind bytes e
    → HasParameters order [] list
endpoint_has source kind bytes order list e front r =
    subst (λ (x : Endianness × List ℕ). HasParameters x.0 [] x.1)
    (list_one bytes r.order r.ps r.list order list front) (list_has bytes [] r.order r.ps r.list r.understood)
