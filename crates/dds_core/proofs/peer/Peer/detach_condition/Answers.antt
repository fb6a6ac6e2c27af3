use Rattle.std.proofs.Common.{refl}
use Rattle.dds_machine.specs.declared.call.Call.TheVariants as call
use Rattle.dds_core.proofs.CallSteps.{follows_as, still_stands}
use Rattle.dds_conditions.specs.Watched.{detaching_refusal, with_detached}
use Rattle.dds_core.proofs.Watched.{done_call}
use Rattle.dds_core.proofs.peer.Peer.detach_condition.Goals as goal

pub returns-clause-step : goal.returns-clause-step
returns-clause-step c = λ roster peer given.
    let s = still_stands c.self.view_is given in
    follows_as _ roster peer _ _ _ c.answered.ensures
    (done_call (λ w. detaching_refusal w c.args.wait_set c.args.condition)
    (λ w. with_detached w c.args.wait_set c.args.condition) _
    c.detach-done.new.self c.detach-done.result c.reply_to.result roster peer s
    (call.DetachCondition c.args.wait_set c.args.condition) (λ dds h. h) refl c.reply_to.ensures
    c.detach-done.ensures.ok c.detach-done.ensures.taken c.detach-done.ensures.refused c.detach-done.ensures.err)
