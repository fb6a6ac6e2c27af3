use Rattle.std.proofs.Common.{Some, refl}
use Rattle.dds_base.specs.Number.{at_number}
use Rattle.dds_machine.specs.declared.call.Call.TheVariants as call
use Rattle.dds_core.proofs.CallSteps.{follows_as, still_stands}
use Rattle.dds_conditions.specs.Watched.{guard_refusal, with_condition_at}
use Rattle.dds_conditions.specs.declared.condition.Condition.TheVariants.{Guard}
use Rattle.dds_core.proofs.Watched.{done_call}
use Rattle.dds_core.proofs.peer.Peer.set_trigger_value.Goals as goal

pub returns-clause-step : goal.returns-clause-step
returns-clause-step c = λ roster peer given.
    let s = still_stands c.self.view_is given in
    follows_as _ roster peer _ _ _ c.answered.ensures
    (done_call (λ w. guard_refusal (at_number w.conditions c.args.condition))
    (λ w. with_condition_at w c.args.condition (Some (Guard c.args.value))) _
    c.set_guard-done.new.self c.set_guard-done.result c.reply_to.result roster peer s
    (call.SetTriggerValue c.args.condition c.args.value) (λ dds h. h) refl c.reply_to.ensures
    c.set_guard-done.ensures.ok c.set_guard-done.ensures.taken c.set_guard-done.ensures.refused
    c.set_guard-done.ensures.err)
