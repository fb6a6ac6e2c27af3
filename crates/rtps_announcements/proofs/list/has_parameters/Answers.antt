use Rattle.std.proofs.Common.{sym, refl, arith}
use Rattle.rtps_announcements.proofs.ListLaws.{walks_first, walks_on, ends_well, ends_badly, is_whole_there, is_understood_there}
use Rattle.rtps_announcements.proofs.list.has_parameters.Goals as goal
use Rattle.rtps_announcements.proofs.list.has_parameters.Goals.{then-not-is_whole-via-then-not-is_whole, then-not-is_whole-via-else-not-is_whole+then-not-is_understood}

pub loop-parameter-init : goal.loop-parameter-init
loop-parameter-init c =
    walks_first c.args.order c.args.known.now c.args.bytes.now (λ i. omega (arith, c.type_inv.bytes i))

pub returns-then-parameter-eq-PID_SENTINEL : goal.returns-then-parameter-eq-PID_SENTINEL
returns-then-parameter-eq-PID_SENTINEL c = (
  λ t. ends_well c.args.order c.args.known.now c.args.bytes.now c.loop-parameter.left.now c.in-Some.parameter.id
      c.in-Some.parameter.value.now c.in-Some.rest.now (sym c.in-Some.ensures.value)
      c.if-parameter-eq-PID_SENTINEL.true c.loop-parameter.invariant,
  λ h. refl,
)

pub returns-then-not-is_whole : goal.returns-then-not-is_whole
returns-then-not-is_whole c = (
  λ t. absurd cc,
  λ h.
      let whole =
      is_whole_there c.args.order c.args.known.now c.args.bytes.now c.loop-parameter.left.now c.in-Some.parameter.id
      c.in-Some.parameter.value.now c.in-Some.rest.now (sym c.in-Some.ensures.value)
      c.if-parameter-eq-PID_SENTINEL.false c.loop-parameter.invariant h in
      let understood =
      is_understood_there c.args.order c.args.known.now c.args.bytes.now c.loop-parameter.left.now
      c.in-Some.parameter.id c.in-Some.parameter.value.now c.in-Some.rest.now (sym c.in-Some.ensures.value)
      c.if-parameter-eq-PID_SENTINEL.false c.loop-parameter.invariant h in
      elim c.then-not-is_whole.branch [
        | then-not-is_whole-via-then-not-is_whole w ↦ w.if-not-is_whole.ensures.1 whole
        | then-not-is_whole-via-else-not-is_whole+then-not-is_understood w ↦ w.if-not-is_understood.ensures.1 understood
      ],
)

pub loop-parameter-preserved : goal.loop-parameter-preserved
loop-parameter-preserved c =
    walks_on c.args.order c.args.known.now c.args.bytes.now c.loop-parameter.left.now c.in-Some.parameter.id
    c.in-Some.parameter.value.now c.in-Some.rest.now (sym c.in-Some.ensures.value)
    c.if-parameter-eq-PID_SENTINEL.false (c.if-not-is_whole.ensures.0 refl) (c.if-not-is_understood.ensures.0 refl)
    c.loop-parameter.invariant

pub returns : goal.returns
returns c = (
  λ t. absurd cc,
  λ h. absurd (ends_badly c.args.order c.args.known.now c.args.bytes.now c.loop-parameter.left.now
      (sym c.in_default.ensures.value) c.loop-parameter.invariant h),
)
