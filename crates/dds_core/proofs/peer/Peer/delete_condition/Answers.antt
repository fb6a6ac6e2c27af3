use Rattle.std.proofs.Common.{refl}
use Rattle.dds_machine.specs.declared.call.Call.TheVariants as call
use Rattle.dds_core.proofs.CallSteps.{follows_as, still_stands}
use Rattle.dds_conditions.specs.Watched.{unless_there, without_condition}
use Rattle.std.specs.Prelude.{is_some}
use Rattle.dds_base.specs.Number.{at_number}
use Rattle.dds_core.proofs.Watched.{done_call}
use Rattle.dds_core.proofs.peer.Peer.delete_condition.Goals as goal

pub returns-clause-step : goal.returns-clause-step
returns-clause-step c = λ roster peer given.
    let s = still_stands c.self.view_is given in
    follows_as _ roster peer _ _ _ c.answered.ensures
    (done_call (λ w. unless_there (is_some (at_number w.conditions c.args.condition)))
    (λ w. without_condition w c.args.condition) _
    c.delete-done.new.self c.delete-done.result c.reply_to.result roster peer s (call.DeleteCondition c.args.condition)
    (λ dds h. h) refl c.reply_to.ensures
    c.delete-done.ensures.ok c.delete-done.ensures.taken c.delete-done.ensures.refused c.delete-done.ensures.err)
