use Rattle.std.proofs.Common.{refl, ap, rules, ◌∙◌}
use Rattle.dds_machine.specs.declared.call.Call.TheVariants as call
use Rattle.dds_notices.specs.declared.mask.StatusMask.{StatusMask}
use Rattle.dds_conditions.specs.Watched.{Watched, knows_entity, unless_there}
use Rattle.dds_machine.specs.declared.reply.Reply.TheVariants.{StatusChanges}
use Rattle.dds_machine.specs.Watching.{status_changes}
use Rattle.dds_core.proofs.CallSteps.{follows_as}
use Rattle.dds_core.proofs.Watched.{told_call}
use Rattle.dds_core.proofs.peer.Peer.get_status_changes.Goals as goal

pub returns-clause-step : goal.returns-clause-step
returns-clause-step c = λ roster peer given.
    follows_as _ roster peer _ _ _ c.answered.ensures
    (told_call _ roster peer given (unless_there (knows_entity peer.part.dds.watch c.args.entity))
    (StatusChanges (status_changes peer.part c.args.entity))
    (call.GetStatusChanges c.args.entity) (StatusChanges c.statuses_of-statuses.result) (λ dds h. h) refl
    (ap (λ (w : Watched). unless_there (knows_entity w c.args.entity)) given.watch ∙ search rules)
    (ap (λ (m : StatusMask). StatusChanges m) (c.statuses_of-statuses.ensures roster peer given)))
