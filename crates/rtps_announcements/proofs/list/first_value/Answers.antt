use Rattle.std.proofs.Common.{sym}
use Rattle.rtps_announcements.proofs.ListLaws.{seeks_first, seeks_on, seeks_none, seeks_to_the_end, seeks_it}
use Rattle.rtps_announcements.proofs.list.first_value.Goals as goal

pub loop-parameter-init : goal.loop-parameter-init
loop-parameter-init c = seeks_first c.args.order c.args.id c.args.bytes.now

pub returns-then-parameter-eq-PID_SENTINEL : goal.returns-then-parameter-eq-PID_SENTINEL
returns-then-parameter-eq-PID_SENTINEL c =
    seeks_to_the_end c.args.order c.args.id c.args.bytes.now c.loop-parameter.left.now c.in-Some.parameter.id
    c.in-Some.parameter.value.now c.in-Some.rest.now (sym c.in-Some.ensures.value)
    c.if-parameter-eq-PID_SENTINEL.true c.loop-parameter.invariant

pub returns-then-parameter-id : goal.returns-then-parameter-id
returns-then-parameter-id c =
    seeks_it c.args.order c.args.id c.args.bytes.now c.loop-parameter.left.now c.in-Some.parameter.id
    c.in-Some.parameter.value.now c.in-Some.rest.now (sym c.in-Some.ensures.value)
    c.if-parameter-eq-PID_SENTINEL.false c.if-parameter-id.true c.loop-parameter.invariant

pub loop-parameter-preserved : goal.loop-parameter-preserved
loop-parameter-preserved c =
    seeks_on c.args.order c.args.id c.args.bytes.now c.loop-parameter.left.now c.in-Some.parameter.id
    c.in-Some.parameter.value.now c.in-Some.rest.now (sym c.in-Some.ensures.value)
    c.if-parameter-eq-PID_SENTINEL.false c.if-parameter-id.false c.in-Some.ensures.rest c.loop-parameter.invariant

pub returns : goal.returns
returns c =
    seeks_none c.args.order c.args.id c.args.bytes.now c.loop-parameter.left.now (sym c.in_default.ensures.value)
    c.loop-parameter.invariant
