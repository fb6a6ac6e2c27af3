use Rattle.std.proofs.Common.{Some, refl}
use Rattle.dds_base.specs.Number.{at_number}
use Rattle.dds_machine.specs.declared.call.Call.TheVariants as call
use Rattle.dds_core.proofs.CallSteps.{follows_as, still_stands}
use Rattle.dds_conditions.specs.Watched.{free_refusal, with_deadline}
use Rattle.dds_core.proofs.Watched.{done_call}
use Rattle.dds_core.proofs.peer.Peer.wait_begin.Goals as goal

pub returns-clause-step : goal.returns-clause-step
returns-clause-step c = λ roster peer given.
    let s = still_stands c.self.view_is given in
    follows_as _ roster peer _ _ _ c.answered.ensures
    (done_call (λ w. free_refusal (at_number w.wait_sets c.args.wait_set))
    (λ w. with_deadline w c.args.wait_set (Some c.args.deadline)) _
    c.begin-done.new.self c.begin-done.result c.reply_to.result roster peer s
    (call.WaitBegin c.args.wait_set c.args.deadline) (λ dds h. h) refl c.reply_to.ensures
    c.begin-done.ensures.ok c.begin-done.ensures.taken c.begin-done.ensures.refused c.begin-done.ensures.err)
