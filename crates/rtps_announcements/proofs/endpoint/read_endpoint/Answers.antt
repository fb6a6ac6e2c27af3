use Rattle.std.proofs.Common.{◌≡◌, ℕ, List, [], Option, Some, None, IfSome, sym, refl, arith, length}
use Rattle.dds_base.specs.declared.endianness.Endianness.{Endianness}
use Rattle.dds_base.specs.declared.guid.GuidPrefix.{GuidPrefix}
use Rattle.rtps_announcements.specs.EndpointAt.{EndpointAt}
use Rattle.rtps_announcements.specs.Endpoints.{ReadsEndpoint}
use Rattle.rtps_announcements.specs.ListAt.{list_at, HasParameters}
use Rattle.rtps_announcements.specs.declared.endpoint.Endpoint.{Endpoint}
use Rattle.rtps_announcements.specs.declared.qos.EndpointKind.{EndpointKind}
use Rattle.dds_base.proofs.FieldLaws.{AreOctets}
use Rattle.rtps_announcements.proofs.EndpointLaws.{endpoint_found, endpoint_only, endpoint_has, list_only}
use Rattle.rtps_announcements.proofs.endpoint.read_endpoint.Goals as goal

found : (source : GuidPrefix) (kind : EndpointKind) (bytes : List ℕ) (order : Endianness) (list : List ℕ)
    (o : Option Endpoint) → length source.0 ≡ 12 → AreOctets bytes → list_at bytes ≡ Some (order, list)
    → HasParameters order [] list → IfSome o (λ e. EndpointAt source kind order list e)
    → IfSome o (λ e. ReadsEndpoint source kind bytes e)
found source kind bytes order list None twelve octets front has at = tt
found source kind bytes order list (Some e) twelve octets front has at =
    endpoint_found source kind bytes order list e twelve octets front has at

pub returns-in_err-order-clause-only : goal.returns-in_err-order-clause-only
returns-in_err-order-clause-only c = λ e r.
    let some = list_only c.args.bytes.now r.order r.ps r.list in
    let none = c.in_err-order.ensures in
    absurd (cc (some, none))

pub returns-then-not-has_parameters-clause-only : goal.returns-then-not-has_parameters-clause-only
returns-then-not-has_parameters-clause-only c = λ e r.
    let has = c.if-not-has_parameters.ensures.1
    (endpoint_has c.args.source c.args.kind c.args.bytes.now c.in_ok-order.order c.in_ok-order.list.now e
    (sym c.in_ok-order.ensures) r) in
    absurd (cc has)

pub returns-clause-found : goal.returns-clause-found
returns-clause-found c =
    found c.args.source c.args.kind c.args.bytes.now c.in_ok-order.order c.in_ok-order.list.now c.endpoint_in.result
    c.as_slice-octets.ensures.len (λ i. omega (arith, c.type_inv.bytes i)) (sym c.in_ok-order.ensures)
    (c.if-not-has_parameters.ensures.0 refl) c.endpoint_in.ensures.found

pub returns-clause-only : goal.returns-clause-only
returns-clause-only c = λ e r.
    c.endpoint_in.ensures.only e (endpoint_only c.args.source c.args.kind c.args.bytes.now c.in_ok-order.order
    c.in_ok-order.list.now e c.as_slice-octets.ensures.len (λ i. omega (arith, c.type_inv.bytes i))
    (sym c.in_ok-order.ensures) r)
