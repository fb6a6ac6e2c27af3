-- Far readers and far writers are compared by tests that decide whether two are the same.
use Rattle.std.proofs.Common.{◌≡◌, rules}
use Rattle.std.specs.Bool.{Decides}
use Rattle.std.proofs.lemmas.Bool.Decides.{Decides-and, Decides-int_eq, Decides-like}
use Rattle.dds_base.specs.contracts.duration.DurationPartialEq.TheImpl as of_durations
use Rattle.dds_base.specs.contracts.guid.GuidPartialEq.TheImpl as of_guids
use Rattle.dds_base.specs.contracts.policies.DestinationOrderQosPartialEq.TheImpl as of_destination_orders
use Rattle.dds_base.specs.contracts.policies.DurabilityQosPartialEq.TheImpl as of_durabilities
use Rattle.dds_base.specs.contracts.policies.LivelinessKindPartialEq.TheImpl as of_liveliness_kinds
use Rattle.dds_base.specs.contracts.policies.LivelinessQosPartialEq.TheImpl as of_livelinesses
use Rattle.dds_base.specs.contracts.policies.PoliciesPartialEq.TheImpl as of_policies
use Rattle.dds_base.specs.contracts.policies.PresentationQosPartialEq.TheImpl as of_presentations
use Rattle.dds_base.specs.contracts.policies.PresentationScopePartialEq.TheImpl as of_scopes
use Rattle.dds_base.specs.contracts.qos.OwnershipQosPartialEq.TheImpl as of_ownerships
use Rattle.dds_base.specs.contracts.qos.ReliabilityQosPartialEq.TheImpl as of_reliabilities
use Rattle.dds_base.specs.declared.duration.Duration.{Duration}
use Rattle.dds_base.specs.declared.guid.Guid.{Guid}
use Rattle.dds_base.specs.declared.policies.DestinationOrderQos.{DestinationOrderQos}
use Rattle.dds_base.specs.declared.policies.DurabilityQos.{DurabilityQos}
use Rattle.dds_base.specs.declared.policies.LivelinessKind.{LivelinessKind}
use Rattle.dds_base.specs.declared.policies.LivelinessQos.{LivelinessQos}
use Rattle.dds_base.specs.declared.policies.Policies.{Policies}
use Rattle.dds_base.specs.declared.policies.PresentationQos.{PresentationQos}
use Rattle.dds_base.specs.declared.policies.PresentationScope.{PresentationScope}
use Rattle.dds_base.specs.declared.qos.OwnershipQos.{OwnershipQos}
use Rattle.dds_base.specs.declared.qos.ReliabilityQos.{ReliabilityQos}
use Rattle.dds_machine.specs.contracts.far.FarReaderPartialEq.TheImpl as of_far_readers
use Rattle.dds_machine.specs.contracts.far.FarWriterPartialEq.TheImpl as of_far_writers
use Rattle.dds_machine.specs.declared.far.FarReader.{FarReader}
use Rattle.dds_machine.specs.declared.far.FarWriter.{FarWriter}
use Rattle.dds_protocol.proofs.Compared.{endpoints}

guids : (a b : Guid) → Decides (of_guids.ghosts.eq a b) (a ≡ b)
guids a b = search rules

reliabilities : (a b : ReliabilityQos) → Decides (of_reliabilities.ghosts.eq a b) (a ≡ b)
reliabilities a b = search rules

durabilities : (a b : DurabilityQos) → Decides (of_durabilities.ghosts.eq a b) (a ≡ b)
durabilities a b = search rules

liveliness_kinds : (a b : LivelinessKind) → Decides (of_liveliness_kinds.ghosts.eq a b) (a ≡ b)
liveliness_kinds a b = search rules

ownerships : (a b : OwnershipQos) → Decides (of_ownerships.ghosts.eq a b) (a ≡ b)
ownerships a b = search rules

destination_orders : (a b : DestinationOrderQos) → Decides (of_destination_orders.ghosts.eq a b) (a ≡ b)
destination_orders a b = search rules

scopes : (a b : PresentationScope) → Decides (of_scopes.ghosts.eq a b) (a ≡ b)
scopes a b = search rules

durations : (a b : Duration) → Decides (of_durations.ghosts.eq a b) (a ≡ b)
durations a b = search rules

livelinesses : (a b : LivelinessQos) → Decides (of_livelinesses.ghosts.eq a b) (a ≡ b)
livelinesses a b = search (rules, liveliness_kinds, durations)

presentations : (a b : PresentationQos) → Decides (of_presentations.ghosts.eq a b) (a ≡ b)
presentations a b = search (rules, scopes)

policies : (a b : Policies) → Decides (of_policies.ghosts.eq a b) (a ≡ b)
policies a b =
    let all =
    Decides-and _ _ (reliabilities a.reliability b.reliability)
    (Decides-and _ _ (durabilities a.durability b.durability)
    (Decides-and _ _ (livelinesses a.liveliness b.liveliness)
    (Decides-and _ _ (ownerships a.ownership b.ownership)
    (Decides-and _ _ (Decides-int_eq a.strength b.strength)
    (Decides-and _ _ (durations a.deadline b.deadline)
    (Decides-and _ _ (durations a.latency_budget b.latency_budget)
    (Decides-and _ _ (destination_orders a.destination_order b.destination_order)
    (presentations a.presentation b.presentation)))))))) in
    Decides-like (of_policies.ghosts.eq a b)
    (λ h i. record {
      reliability = h.0 i;
      durability = h.1.0 i;
      liveliness = h.1.1.0 i;
      ownership = h.1.1.1.0 i;
      strength = h.1.1.1.1.0 i;
      deadline = h.1.1.1.1.1.0 i;
      latency_budget = h.1.1.1.1.1.1.0 i;
      destination_order = h.1.1.1.1.1.1.1.0 i;
      presentation = h.1.1.1.1.1.1.1.1 i;
    })
    (λ e. (cc, (cc, (cc, (cc, (cc, (cc, (cc, (cc, cc))))))))) all

pub far_readers : (a b : FarReader) → Decides (of_far_readers.ghosts.eq a b) (a ≡ b)
far_readers a b = search (rules, endpoints, guids, policies)

pub far_writers : (a b : FarWriter) → Decides (of_far_writers.ghosts.eq a b) (a ≡ b)
far_writers a b = search (rules, endpoints, guids, policies)
