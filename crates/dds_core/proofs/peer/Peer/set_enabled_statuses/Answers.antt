use Rattle.std.proofs.Common.{refl}
use Rattle.dds_machine.specs.declared.call.Call.TheVariants as call
use Rattle.dds_core.proofs.CallSteps.{follows_as, still_stands}
use Rattle.dds_conditions.specs.Watched.{knows_entity, unless_there, with_enabled}
use Rattle.dds_core.proofs.Watched.{done_call}
use Rattle.dds_core.proofs.peer.Peer.set_enabled_statuses.Goals as goal

pub returns-clause-step : goal.returns-clause-step
returns-clause-step c = λ roster peer given.
    let s = still_stands c.self.view_is given in
    follows_as _ roster peer _ _ _ c.answered.ensures
    (done_call (λ w. unless_there (knows_entity w c.args.entity)) (λ w. with_enabled w c.args.entity c.args.mask) _
    c.enable-done.new.self c.enable-done.result c.reply_to.result roster peer s
    (call.SetEnabledStatuses c.args.entity c.args.mask) (λ dds h. h) refl c.reply_to.ensures
    c.enable-done.ensures.ok c.enable-done.ensures.taken c.enable-done.ensures.refused c.enable-done.ensures.err)
