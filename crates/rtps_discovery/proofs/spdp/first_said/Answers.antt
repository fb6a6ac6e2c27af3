use Rattle.std.proofs.Common.{◌∙◌, sym}
use Rattle.rtps_discovery.proofs.Saying.{silent_at_first, silent_more, says_it, says_nothing, says_found, one_is}
use Rattle.rtps_discovery.proofs.spdp.first_said.Goals as goal

pub loop-frame-init : goal.loop-frame-init
loop-frame-init c = silent_at_first c.args.own.now c.args.source c.args.domain c.args.body.now

pub loop-frame-preserved : goal.loop-frame-preserved
loop-frame-preserved c =
    rw c.for_us_after-for_us.ensures
    (silent_more c.args.own.now c.args.source c.args.domain c.args.body.now c.loop-frame.left.now c.loop-frame.for_us
    c.in-Some.rest.now c.in-Some.frame.id c.in-Some.frame.flags c.in-Some.frame.body.now c.submessage-submessage.result
    c.said_by-said.result c.loop-frame.invariant
    (one_is c.args.source c.args.domain c.loop-frame.left.now c.in-Some.rest.now c.in-Some.frame.id
    c.in-Some.frame.flags c.in-Some.frame.body.now c.submessage-submessage.result c.said_by-said.result c.in-Some.ensures.found
    c.submessage-submessage.ensures.read
    (says_found c.args.source c.args.domain c.in-Some.frame.id c.in-Some.frame.flags c.in-Some.frame.body.now
    c.said_by-said.result c.said_by-said.ensures.found c.said_by-said.ensures.only))
    (sym c.is_told.ensures ∙ c.if-is_told.false))

pub returns-then-is_told : goal.returns-then-is_told
returns-then-is_told c =
    says_it c.args.own.now c.args.source c.args.domain c.args.body.now c.loop-frame.left.now c.loop-frame.for_us
    c.in-Some.rest.now c.in-Some.frame.id c.in-Some.frame.flags c.in-Some.frame.body.now c.submessage-submessage.result
    c.said_by-said.result c.loop-frame.invariant
    (one_is c.args.source c.args.domain c.loop-frame.left.now c.in-Some.rest.now c.in-Some.frame.id
    c.in-Some.frame.flags c.in-Some.frame.body.now c.submessage-submessage.result c.said_by-said.result c.in-Some.ensures.found
    c.submessage-submessage.ensures.read
    (says_found c.args.source c.args.domain c.in-Some.frame.id c.in-Some.frame.flags c.in-Some.frame.body.now
    c.said_by-said.result c.said_by-said.ensures.found c.said_by-said.ensures.only))
    (sym c.is_told.ensures ∙ c.if-is_told.true)

pub returns : goal.returns
returns c =
    says_nothing c.args.own.now c.args.source c.args.domain c.args.body.now c.loop-frame.left.now c.loop-frame.for_us
    c.loop-frame.invariant c.in_default.ensures.end
