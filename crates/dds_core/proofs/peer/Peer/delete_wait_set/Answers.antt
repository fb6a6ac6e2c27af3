use Rattle.std.proofs.Common.{None, refl}
use Rattle.dds_base.specs.Number.{at_number}
use Rattle.dds_machine.specs.declared.call.Call.TheVariants as call
use Rattle.dds_core.proofs.CallSteps.{follows_as, still_stands}
use Rattle.dds_conditions.specs.Watched.{free_refusal, with_wait_set_at}
use Rattle.dds_core.proofs.Watched.{done_call}
use Rattle.dds_core.proofs.peer.Peer.delete_wait_set.Goals as goal

pub returns-clause-step : goal.returns-clause-step
returns-clause-step c = λ roster peer given.
    let s = still_stands c.self.view_is given in
    follows_as _ roster peer _ _ _ c.answered.ensures
    (done_call (λ w. free_refusal (at_number w.wait_sets c.args.wait_set)) (λ w. with_wait_set_at w c.args.wait_set None) _
    c.delete_wait_set-done.new.self c.delete_wait_set-done.result c.reply_to.result roster peer s
    (call.DeleteWaitSet c.args.wait_set) (λ dds h. h) refl c.reply_to.ensures
    c.delete_wait_set-done.ensures.ok c.delete_wait_set-done.ensures.taken c.delete_wait_set-done.ensures.refused
    c.delete_wait_set-done.ensures.err)
