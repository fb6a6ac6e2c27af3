use Rattle.std.proofs.Common.{sym}
use Rattle.rtps_wire.proofs.ParameterLaws.{may_begin, may_go_on, ends_without, ends_at_sentinel, ends_at_invalid}
use Rattle.rtps_wire.proofs.parameters.take_parameters.Goals as goal

pub loop-parameter-init : goal.loop-parameter-init
loop-parameter-init c = may_begin c.args.order c.args.bytes.now

pub returns-then-parameter-eq-PID_SENTINEL : goal.returns-then-parameter-eq-PID_SENTINEL
returns-then-parameter-eq-PID_SENTINEL c =
    ends_at_sentinel c.args.order c.args.bytes.now c.loop-parameter.found c.loop-parameter.left.now
    c.in-Some.parameter.id c.in-Some.parameter.value.now c.in-Some.rest.now
    (sym c.in-Some.ensures.value) c.if-parameter-eq-PID_SENTINEL.true c.loop-parameter.invariant

pub returns-in_err-found : goal.returns-in_err-found
returns-in_err-found c =
    rw c.from_residual.ensures
    (ends_at_invalid c.args.order c.args.bytes.now c.loop-parameter.found c.loop-parameter.left.now
    c.in-Some.parameter.id c.in-Some.parameter.value.now c.in-Some.rest.now
    (sym c.in-Some.ensures.value) c.if-parameter-eq-PID_SENTINEL.false
    (sym c.in_err-found.ensures) c.loop-parameter.invariant)

pub loop-parameter-preserved : goal.loop-parameter-preserved
loop-parameter-preserved c =
    may_go_on c.args.order c.args.bytes.now c.loop-parameter.found c.loop-parameter.left.now c.in-Some.parameter.id
    c.in-Some.parameter.value.now c.in-Some.rest.now c.in_ok-found.found
    (sym c.in-Some.ensures.value) c.if-parameter-eq-PID_SENTINEL.false
    (sym c.in_ok-found.ensures) c.in-Some.ensures.rest c.loop-parameter.invariant

pub returns : goal.returns
returns c =
    ends_without c.args.order c.args.bytes.now c.loop-parameter.found c.loop-parameter.left.now
    (sym c.in_default.ensures.value) c.loop-parameter.invariant
