use Rattle.std.proofs.Common.{Bool, refl, ap, rules, ◌∙◌}
use Rattle.dds_machine.specs.declared.call.Call.TheVariants as call
use Rattle.dds_conditions.specs.Watched.{Watched, knows, unless_there}
use Rattle.dds_machine.specs.declared.reply.Reply.TheVariants.{TriggerValue}
use Rattle.dds_machine.specs.Watching.{trigger_value}
use Rattle.dds_core.proofs.CallSteps.{follows_as}
use Rattle.dds_core.proofs.Watched.{told_call}
use Rattle.dds_core.proofs.peer.Peer.get_trigger_value.Goals as goal

pub returns-clause-step : goal.returns-clause-step
returns-clause-step g c = λ roster peer given.
    let tests = g.T.Filters.meaning c.args.filters.now in
    follows_as _ roster peer _ _ _ c.answered.ensures
    (told_call _ roster peer given (unless_there (knows peer.part.dds.watch c.args.condition))
    (TriggerValue (trigger_value tests peer.part c.args.condition))
    (call.GetTriggerValue c.args.condition) (TriggerValue c.trigger_of-value.result) (λ dds h. h) refl
    (ap (λ (w : Watched). unless_there (knows w c.args.condition)) given.watch ∙ search rules)
    (ap (λ (b : Bool). TriggerValue b) (c.trigger_of-value.ensures.value roster peer given)))
