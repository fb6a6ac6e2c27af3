use Rattle.std.proofs.Common.{rules}
use Rattle.rtps_fragments.specs.Hearing.{HearsSome}
use Rattle.rtps_fragments.proofs.Going.{goes_none, goes_more, goes_all, goes_some}
use Rattle.rtps_fragments.proofs.hearing.Fragments.hear_body.Goals as goal

pub loop-frame-init : goal.loop-frame-init
loop-frame-init c = goes_none c.args.in_force c.args.body.now c.args.self.now c.args.whole.now.items

pub loop-frame-preserved : goal.loop-frame-preserved
loop-frame-preserved c =
    rw c.after-in_force_now.ensures
    (goes_more c.args.in_force c.args.body.now c.loop-frame.left.now c.args.self.now c.loop-frame.self
    c.args.whole.now.items c.loop-frame.whole.items c.loop-frame.in_force_now c.in-Some.frame.id c.in-Some.frame.flags
    c.in-Some.frame.body.now c.in-Some.rest.now c.submessage.result c.hear_frame.new.self c.hear_frame.new.whole.items
    c.loop-frame.invariant c.in-Some.ensures.found c.submessage.ensures.read c.in_ok-hear_frame.ensures.ok)

pub returns-clause-ok : goal.returns-clause-ok
returns-clause-ok c =
    goes_all c.args.in_force c.args.body.now c.loop-frame.left.now c.args.self.now c.loop-frame.self
    c.args.whole.now.items c.loop-frame.whole.items c.loop-frame.in_force_now c.loop-frame.invariant
    c.in_default.ensures.end

pub returns-in_err-hear_frame-clause-err : goal.returns-in_err-hear_frame-clause-err
returns-in_err-hear_frame-clause-err c =
    let base =
    goes_some c.args.in_force c.args.body.now c.loop-frame.left.now c.args.self.now c.loop-frame.self
    c.args.whole.now.items c.loop-frame.whole.items c.loop-frame.in_force_now c.in-Some.frame.id c.in-Some.frame.flags
    c.in-Some.frame.body.now c.in-Some.rest.now c.loop-frame.invariant c.in-Some.ensures.found
    c.in_err-hear_frame.ensures.memory.1 in
    let rows-is = c.in_err-hear_frame.ensures.err.0 in
    let whole-is = c.in_err-hear_frame.ensures.err.1 in
    let here : HearsSome c.args.in_force c.args.body.now c.args.self.now c.hear_frame.new.self c.args.whole.now.items
    c.hear_frame.new.whole.items = rw (rows-is, whole-is) base in
    search rules
