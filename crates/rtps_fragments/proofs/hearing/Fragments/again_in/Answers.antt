use Rattle.std.proofs.Common.{List, ◌++◌, subst, sym}
use Rattle.rtps_fragments.specs.Asking.{AreAgain}
use Rattle.rtps_fragments.specs.declared.nack_frag.ChangeId.{ChangeId}
use Rattle.rtps_fragments.proofs.Again.{again_end, again_next}
use Rattle.rtps_fragments.proofs.hearing.Fragments.again_in.Goals as goal

pub loop-frame-init : goal.loop-frame-init
loop-frame-init c = λ later h.
    subst (λ (z : List ChangeId). AreAgain c.args.self.now c.args.source c.args.body.now (z ++ later))
    (sym c.new-again.ensures.items) h

pub loop-frame-preserved : goal.loop-frame-preserved
loop-frame-preserved c =
    again_next c.args.self.now c.args.source c.args.body.now c.loop-frame.left.now c.loop-frame.again.items c.put_any.new.changes.items
    c.in-Some.frame.id c.in-Some.frame.flags c.in-Some.frame.body.now c.in-Some.rest.now c.again_by.result
    c.loop-frame.invariant c.in-Some.ensures.found c.again_by.ensures c.in_ok-put_any.ensures.ok

pub returns-clause-ok : goal.returns-clause-ok
returns-clause-ok c =
    again_end c.args.self.now c.args.source c.args.body.now c.loop-frame.left.now c.loop-frame.again.items c.loop-frame.invariant
    c.in_default.ensures.end
