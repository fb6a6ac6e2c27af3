use Rattle.std.proofs.Common.{◌≡◌, Bool, true, false, not, refl}
use Rattle.dds_machine.specs.declared.call.Call.TheVariants as call
use Rattle.dds_core.proofs.CallSteps.{follows_as, still_stands}
use Rattle.dds_conditions.specs.Attached.{is_attached}
use Rattle.dds_conditions.specs.Watched.{attach_refusal, conditions_of, with_attached}
use Rattle.dds_core.proofs.Watched.{done_in_memory}
use Rattle.dds_core.proofs.peer.Peer.attach_condition.Goals as goal

-- one that is attached needs no memory
attached_already : (b : Bool) {P : Type 0} → not b ≡ false → (b ≡ true → P) → P
attached_already true needless then = then refl
attached_already false needless then = absurd cc

pub returns-clause-step : goal.returns-clause-step
returns-clause-step c = λ roster peer given.
    let s = still_stands c.self.view_is given in
    follows_as _ roster peer _ _ _ c.answered.ensures
    (done_in_memory (λ w. not (is_attached c.args.condition (conditions_of w c.args.wait_set)))
    (λ w. attach_refusal w c.args.wait_set c.args.condition) (λ w. with_attached w c.args.wait_set c.args.condition) _
    c.attach-done.new.self c.attach-done.result c.reply_to.result roster peer s
    (call.AttachCondition c.args.wait_set c.args.condition) (λ dds h. h) refl c.reply_to.ensures
    c.attach-done.ensures.ok c.attach-done.ensures.taken c.attach-done.ensures.refused
    (λ needless. attached_already _ needless c.attach-done.ensures.again) c.attach-done.ensures.err)
