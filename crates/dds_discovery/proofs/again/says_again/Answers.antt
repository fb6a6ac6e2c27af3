use Rattle.dds_discovery.proofs.Silence.{says_it, says_nothing, silent_at_first, silent_more}
use Rattle.dds_discovery.proofs.again.says_again.Goals as goal

pub loop-frame-init : goal.loop-frame-init
loop-frame-init c = silent_at_first c.args.body.now

pub loop-frame-preserved : goal.loop-frame-preserved
loop-frame-preserved c =
    silent_more c.args.body.now c.loop-frame.left.now c.in-Some.frame.id c.in-Some.frame.flags c.in-Some.frame.body.now
    c.in-Some.rest.now c.is_beginning.result c.loop-frame.invariant c.in-Some.ensures.found c.is_beginning.ensures
    c.if-is_beginning.false

pub returns-then-is_beginning : goal.returns-then-is_beginning
returns-then-is_beginning c =
    says_it c.args.body.now c.loop-frame.left.now c.in-Some.frame.id c.in-Some.frame.flags c.in-Some.frame.body.now
    c.in-Some.rest.now c.is_beginning.result c.loop-frame.invariant c.in-Some.ensures.found c.is_beginning.ensures
    c.if-is_beginning.true

pub returns : goal.returns
returns c = says_nothing c.args.body.now c.loop-frame.left.now c.loop-frame.invariant c.in_default.ensures.end
