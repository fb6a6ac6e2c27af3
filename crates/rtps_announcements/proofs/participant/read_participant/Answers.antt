use Rattle.std.proofs.Common.{◌≡◌, ℕ, List, [], ◌∷◌, Option, Some, None, IfSome, sym, refl, arith, length}
use Rattle.dds_base.specs.declared.endianness.Endianness.{Endianness}
use Rattle.dds_base.specs.declared.guid.GuidPrefix.{GuidPrefix}
use Rattle.rtps_announcements.specs.ParticipantAt.{ParticipantAt}
use Rattle.rtps_announcements.specs.Participants.{ReadsParticipant}
use Rattle.rtps_announcements.specs.ListAt.{list_at, HasParameters}
use Rattle.rtps_announcements.specs.declared.participant.Participant.{Participant}
use Rattle.dds_base.proofs.FieldLaws.{AreOctets}
use Rattle.rtps_announcements.proofs.EndpointLaws.{list_only}
use Rattle.rtps_announcements.proofs.ParticipantLaws.{participant_found, participant_only, participant_has}
use Rattle.rtps_announcements.specs.Names.{pid_domain_tag}
use Rattle.rtps_announcements.proofs.participant.read_participant.Goals as goal

found : (source : GuidPrefix) (domain : ℕ) (bytes : List ℕ) (order : Endianness) (list : List ℕ)
    (o : Option Participant) → length source.0 ≡ 12 → AreOctets bytes → list_at bytes ≡ Some (order, list)
    → HasParameters order (pid_domain_tag ∷ []) list → IfSome o (λ e. ParticipantAt source domain order list e)
    → IfSome o (λ e. ReadsParticipant source domain bytes e)
found source domain bytes order list None twelve octets front has at = tt
found source domain bytes order list (Some e) twelve octets front has at =
    participant_found source domain bytes order list e twelve octets front has at

pub returns-in_err-order-clause-only : goal.returns-in_err-order-clause-only
returns-in_err-order-clause-only c = λ e r.
    let some = list_only c.args.bytes.now r.order r.ps r.list in
    let none = c.in_err-order.ensures in
    absurd (cc (some, none))

pub returns-then-not-has_parameters-clause-only : goal.returns-then-not-has_parameters-clause-only
returns-then-not-has_parameters-clause-only c = λ e r.
    let has = c.if-not-has_parameters.ensures.1
    (participant_has c.args.source c.args.domain c.args.bytes.now c.in_ok-order.order c.in_ok-order.list.now e
    (sym c.in_ok-order.ensures) r) in
    absurd (cc has)

pub returns-clause-found : goal.returns-clause-found
returns-clause-found c =
    found c.args.source c.args.domain c.args.bytes.now c.in_ok-order.order c.in_ok-order.list.now c.participant_in.result
    c.as_slice-octets.ensures.len (λ i. omega (arith, c.type_inv.bytes i)) (sym c.in_ok-order.ensures)
    (c.if-not-has_parameters.ensures.0 refl) c.participant_in.ensures.found

pub returns-clause-only : goal.returns-clause-only
returns-clause-only c = λ e r.
    c.participant_in.ensures.only e (participant_only c.args.source c.args.domain c.args.bytes.now c.in_ok-order.order
    c.in_ok-order.list.now e c.as_slice-octets.ensures.len (λ i. omega (arith, c.type_inv.bytes i))
    (sym c.in_ok-order.ensures) r)
