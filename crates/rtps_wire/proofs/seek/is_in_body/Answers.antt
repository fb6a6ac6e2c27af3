use Rattle.rtps_wire.proofs.Seeking.{seeks_none, seeks_more, sought_all}
use Rattle.rtps_wire.proofs.seek.is_in_body.Goals as goal

pub loop-submessage-init : goal.loop-submessage-init
loop-submessage-init c = seeks_none c.args.body.now c.args.wanted.now

pub loop-submessage-preserved : goal.loop-submessage-preserved
loop-submessage-preserved c =
    seeks_more c.args.body.now c.loop-submessage.left.now c.args.wanted.now c.loop-submessage.has c.is_sought-has.result
    c.in-Some.submessage c.in-Some.rest.now c.loop-submessage.invariant c.in-Some.ensures.found c.is_sought-has.ensures

pub returns : goal.returns
returns c =
    sought_all c.args.body.now c.loop-submessage.left.now c.args.wanted.now c.loop-submessage.has
    c.loop-submessage.invariant c.in_default.ensures.end
