use Rattle.dds_domain.proofs.Pieces.{has_it, has_none, none_at_first, none_more}
use Rattle.dds_domain.proofs.asking.has_fragment_in.Goals as goal

pub loop-frame-init : goal.loop-frame-init
loop-frame-init c = none_at_first c.args.body.now

pub loop-frame-preserved : goal.loop-frame-preserved
loop-frame-preserved c =
    none_more c.args.body.now c.loop-frame.left.now
    (record { id = c.in-Some.frame.id; flags = c.in-Some.frame.flags; body = c.in-Some.frame.body.now }) c.in-Some.rest.now
    c.is_fragment.result c.loop-frame.invariant c.in-Some.ensures.found c.is_fragment.ensures c.if-is_fragment.false

pub returns-then-is_fragment : goal.returns-then-is_fragment
returns-then-is_fragment c =
    has_it c.args.body.now c.loop-frame.left.now
    (record { id = c.in-Some.frame.id; flags = c.in-Some.frame.flags; body = c.in-Some.frame.body.now }) c.in-Some.rest.now
    c.is_fragment.result c.loop-frame.invariant c.in-Some.ensures.found c.is_fragment.ensures c.if-is_fragment.true

pub returns : goal.returns
returns c = has_none c.args.body.now c.loop-frame.left.now c.loop-frame.invariant c.in_default.ensures.end
