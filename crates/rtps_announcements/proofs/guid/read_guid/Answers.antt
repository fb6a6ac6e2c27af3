use Rattle.std.proofs.Common.{◌≡◌, ℕ, List, [], ◌∷◌, Option, Some, None, IfSome, sym, refl, ◌∙◌, arith, length}
use Rattle.dds_base.specs.declared.endianness.Endianness.{Endianness}
use Rattle.dds_base.specs.declared.guid.Guid.{Guid}
use Rattle.dds_base.specs.declared.guid.GuidPrefix.{GuidPrefix}
use Rattle.dds_base.proofs.FieldLaws.{AreOctets}
use Rattle.rtps_announcements.specs.Guids.{ReadsGuid}
use Rattle.rtps_announcements.specs.ListAt.{list_at, HasParameters, value_in}
use Rattle.rtps_announcements.specs.Names.{pid_domain_tag, pid_endpoint_guid, pid_participant_guid}
use Rattle.rtps_announcements.specs.ValueAt.{said, guid_at}
use Rattle.std.specs.Option.{option_or}
use Rattle.rtps_announcements.proofs.EndpointLaws.{list_only}
use Rattle.rtps_announcements.proofs.GuidLaws.{guid_found, guid_only, guid_has}
use Rattle.rtps_announcements.proofs.guid.read_guid.Goals as goal

found : (source : GuidPrefix) (bytes : List ℕ) (order : Endianness) (list : List ℕ) (o : Option Guid)
    → length source.0 ≡ 12 → AreOctets bytes → list_at bytes ≡ Some (order, list)
    → HasParameters order (pid_domain_tag ∷ []) list
    → o ≡ said None (guid_at source)
    (option_or (value_in order list pid_endpoint_guid) (value_in order list pid_participant_guid))
    → IfSome o (λ guid. ReadsGuid source bytes guid)
found source bytes order list None twelve octets front has e = tt
found source bytes order list (Some guid) twelve octets front has e =
    guid_found source bytes order list guid twelve octets front has (sym e)

pub returns-in_err-order-clause-only : goal.returns-in_err-order-clause-only
returns-in_err-order-clause-only c = λ guid r.
    let some = list_only c.args.bytes.now r.order r.ps r.list in
    let none = c.in_err-order.ensures in
    absurd (cc (some, none))

pub returns-then-not-has_parameters-clause-only : goal.returns-then-not-has_parameters-clause-only
returns-then-not-has_parameters-clause-only c = λ guid r.
    let has = c.if-not-has_parameters.ensures.1
    (guid_has c.args.source c.args.bytes.now c.in_ok-order.order c.in_ok-order.list.now guid
    (sym c.in_ok-order.ensures) r) in
    absurd (cc has)

pub returns-clause-found : goal.returns-clause-found
returns-clause-found c =
    found c.args.source c.args.bytes.now c.in_ok-order.order c.in_ok-order.list.now c.named_in.result
    c.as_slice-octets.ensures.len (λ i. omega (arith, c.type_inv.bytes i)) (sym c.in_ok-order.ensures)
    (c.if-not-has_parameters.ensures.0 refl) c.named_in.ensures

pub returns-clause-only : goal.returns-clause-only
returns-clause-only c = λ guid r.
    c.named_in.ensures ∙ guid_only c.args.source c.args.bytes.now c.in_ok-order.order c.in_ok-order.list.now guid
    c.as_slice-octets.ensures.len (sym c.in_ok-order.ensures) r
