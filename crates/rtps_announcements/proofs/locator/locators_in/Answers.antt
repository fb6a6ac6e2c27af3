use Rattle.std.proofs.Common.{sym, length, arith}
use Rattle.std.proofs.lemmas.Bool.{eqb-true, eqb-false}
use Rattle.rtps_announcements.proofs.LocatorLaws.{gathers_first, gathers_end, gathers_sentinel, gathers_all, gathers_none, gathers_one}
use Rattle.rtps_announcements.proofs.locator.locators_in.Goals as goal
use Rattle.rtps_announcements.proofs.locator.locators_in.Goals.{then-parameter-eq-PID_SENTINEL-via-then-parameter-eq-PID_SENTINEL, then-parameter-eq-PID_SENTINEL-via-else-parameter-eq-PID_SENTINEL+then-is_full}

pub loop-parameter-init : goal.loop-parameter-init
loop-parameter-init c = rw c.new-items.ensures (gathers_first c.args.order c.args.id c.args.list.now)

pub returns-then-parameter-eq-PID_SENTINEL : goal.returns-then-parameter-eq-PID_SENTINEL
returns-then-parameter-eq-PID_SENTINEL c =
    elim c.then-parameter-eq-PID_SENTINEL.branch [
      | then-parameter-eq-PID_SENTINEL-via-then-parameter-eq-PID_SENTINEL w ↦
          gathers_sentinel c.args.order c.args.id c.args.list.now c.loop-parameter.left.now c.loop-parameter.items.items
          c.in-Some.parameter.id c.in-Some.parameter.value.now c.in-Some.rest.now (sym c.in-Some.ensures.value)
          w.if-parameter-eq-PID_SENTINEL.true c.loop-parameter.invariant
      | then-parameter-eq-PID_SENTINEL-via-else-parameter-eq-PID_SENTINEL+then-is_full w ↦
          gathers_all c.args.order c.args.id c.args.list.now c.loop-parameter.left.now c.loop-parameter.items.items
          (eqb-true (length c.loop-parameter.items.items) 4 (sym w.if-is_full.ensures.value)) c.loop-parameter.invariant
    ]

pub loop-parameter-preserved-in-Some-locator_said : goal.loop-parameter-preserved-in-Some-locator_said
loop-parameter-preserved-in-Some-locator_said c =
    let full = eqb-false (length c.loop-parameter.items.items) 4 (sym c.if-is_full.ensures.value) in
    rw c.push.ensures.items (gathers_one c.args.order c.args.id c.args.list.now c.loop-parameter.left.now
    c.loop-parameter.items.items c.in-Some.parameter.id c.in-Some.parameter.value.now c.in-Some.rest.now
    c.in-Some-locator_said.locator (sym c.in-Some.ensures.value) c.if-parameter-eq-PID_SENTINEL.false
    (sym c.in-Some-locator_said.ensures) (omega (arith, full, c.loop-parameter.invariant.room)) c.in-Some.ensures.rest c.loop-parameter.invariant)

pub loop-parameter-preserved : goal.loop-parameter-preserved
loop-parameter-preserved c =
    gathers_none c.args.order c.args.id c.args.list.now c.loop-parameter.left.now c.loop-parameter.items.items
    c.in-Some.parameter.id c.in-Some.parameter.value.now c.in-Some.rest.now (sym c.in-Some.ensures.value)
    c.if-parameter-eq-PID_SENTINEL.false (sym c.in_default-locator_said.ensures) c.in-Some.ensures.rest
    c.loop-parameter.invariant

pub returns : goal.returns
returns c =
    gathers_end c.args.order c.args.id c.args.list.now c.loop-parameter.left.now c.loop-parameter.items.items
    (sym c.in_default.ensures.value) c.loop-parameter.invariant
