use Rattle.std.proofs.Common.{sym, arith}
use Rattle.rtps_adapter.proofs.ParameterSkipping.{may_begin, may_go_on, ends_without, ends_at_sentinel}
use Rattle.rtps_adapter.proofs.data.skip_parameters.Goals as goal

pub loop-id-init : goal.loop-id-init
loop-id-init c = record { same = may_begin c.args.order c.args.bytes.now; fewer = omega arith }

pub loop-id-preserved : goal.loop-id-preserved
loop-id-preserved c = record {
  same = may_go_on c.args.order c.args.bytes.now c.loop-id.left.now c.in-Some.id c.in-Some.field-0-1.now
      c.in-Some.rest.now (sym c.in-Some.ensures.value) c.if-id-eq-PID_SENTINEL.false c.in-Some.ensures.rest
      c.loop-id.invariant.same;
  fewer = omega (arith, c.in-Some.ensures.rest, c.loop-id.invariant.fewer);
}

pub returns-then-id-eq-PID_SENTINEL-clause-value : goal.returns-then-id-eq-PID_SENTINEL-clause-value
returns-then-id-eq-PID_SENTINEL-clause-value c =
    ends_at_sentinel c.args.order c.args.bytes.now c.loop-id.left.now c.in-Some.id c.in-Some.field-0-1.now
    c.in-Some.rest.now (sym c.in-Some.ensures.value) c.if-id-eq-PID_SENTINEL.true c.loop-id.invariant.same

pub returns-clause-value : goal.returns-clause-value
returns-clause-value c =
    ends_without c.args.order c.args.bytes.now c.loop-id.left.now (sym c.in_default.ensures.value)
    c.loop-id.invariant.same
