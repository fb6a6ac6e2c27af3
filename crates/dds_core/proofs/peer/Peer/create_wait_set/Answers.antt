use Rattle.std.proofs.Common.{◌+◌, length, refl, true}
use Rattle.dds_machine.specs.declared.call.Call.TheVariants as call
use Rattle.dds_core.proofs.CallSteps.{follows_as, still_stands}
use Rattle.dds_conditions.specs.Watched.{number_refusal, with_wait_set}
use Rattle.dds_machine.specs.declared.reply.Reply.TheVariants.{Created}
use Rattle.dds_core.specs.Watching.{made_reply}
use Rattle.dds_core.proofs.Watched.{given_in_memory}
use Rattle.dds_core.proofs.peer.Peer.create_wait_set.Goals as goal

pub returns-clause-step : goal.returns-clause-step
returns-clause-step c = λ roster peer given.
    let s = still_stands c.self.view_is given in
    follows_as _ roster peer _ _ _ c.answered.ensures
    (given_in_memory (λ n. Created n) made_reply (λ n. refl) (λ code. refl) (λ w. true)
    (λ w. number_refusal w.wait_sets)
    (λ w. length w.wait_sets + 1) (λ w. with_wait_set w) _
    c.create_wait_set-made.new.self c.create_wait_set-made.result c.reply_to_made.result roster peer s
    call.CreateWaitSet (λ dds h. h) refl c.reply_to_made.ensures
    c.create_wait_set-made.ensures.ok c.create_wait_set-made.ensures.number c.create_wait_set-made.ensures.taken
    c.create_wait_set-made.ensures.refused (λ needless. absurd cc)
    c.create_wait_set-made.ensures.err)
