use Rattle.rtps_adapter.proofs.Standing.{seeks_none, seeks_more, sought_all}
use Rattle.rtps_adapter.proofs.adapt.has_touched.Goals as goal

pub loop-frame-init : goal.loop-frame-init
loop-frame-init c = seeks_none c.args.way c.args.kinds.now c.args.source.now c.args.body.now

pub loop-frame-preserved : goal.loop-frame-preserved
loop-frame-preserved c =
    seeks_more c.args.way c.args.kinds.now c.args.source.now c.args.body.now c.loop-frame.left.now c.loop-frame.has
    c.is_touched-has.result c.in-Some.frame.id c.in-Some.frame.flags c.in-Some.frame.body.now c.in-Some.rest.now
    c.loop-frame.invariant c.in-Some.ensures.found (c.is_touched-has.ensures _)

pub returns : goal.returns
returns c =
    sought_all c.args.way c.args.kinds.now c.args.source.now c.args.body.now c.loop-frame.left.now c.loop-frame.has
    c.loop-frame.invariant c.in_default.ensures.end
