use Rattle.std.proofs.Common.{◌+◌, false, length, refl, true}
use Rattle.dds_machine.specs.declared.call.Call.TheVariants as call
use Rattle.dds_core.proofs.CallSteps.{follows_as, still_stands}
use Rattle.dds_conditions.specs.Watched.{number_refusal, with_condition}
use Rattle.dds_conditions.specs.declared.condition.Condition.TheVariants.{Guard}
use Rattle.dds_machine.specs.declared.reply.Reply.TheVariants.{Created}
use Rattle.dds_core.specs.Watching.{made_reply}
use Rattle.dds_core.proofs.Watched.{given_in_memory}
use Rattle.dds_core.proofs.peer.Peer.create_guard_condition.Goals as goal

pub returns-clause-step : goal.returns-clause-step
returns-clause-step c = λ roster peer given.
    let s = still_stands c.self.view_is given in
    follows_as _ roster peer _ _ _ c.answered.ensures
    (given_in_memory (λ n. Created n) made_reply (λ n. refl) (λ code. refl) (λ w. true)
    (λ w. number_refusal w.conditions)
    (λ w. length w.conditions + 1) (λ w. with_condition w (Guard false)) _
    c.create-made.new.self c.create-made.result c.reply_to_made.result roster peer s call.CreateGuardCondition
    (λ dds h. h) refl c.reply_to_made.ensures
    c.create-made.ensures.ok c.create-made.ensures.number c.create-made.ensures.taken
    c.create-made.ensures.refused (λ needless. absurd cc) c.create-made.ensures.err)
