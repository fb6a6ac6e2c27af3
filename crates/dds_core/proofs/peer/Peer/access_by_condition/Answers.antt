use Rattle.std.proofs.Common.{◌<◌, length, rules}
use Rattle.dds_core.proofs.Accessing.{accessed_at, is_access_by}
use Rattle.dds_core.proofs.CallSteps.{follows_as}
use Rattle.dds_core.proofs.Triggers.{not_accessed_by}
use Rattle.dds_core.proofs.peer.Peer.access_by_condition.Goals as goal

pub returns-clause-step : goal.returns-clause-step
returns-clause-step g c = λ roster peer given.
    let asked = c.in-Ok.ensures in
    let within : c.in-Ok.asked.index < length c.self.inside.readers.items = search rules in
    let done = c.access-samples in
    accessed_at c.in-Ok.asked.index c.index_mut.result.now done.new.self roster peer c.self.view_is given
    (is_access_by c.args.kind (g.T.Filters.meaning c.args.filters.now) peer.part c.args.reader c.args.scope
    c.args.condition
    c.in-Ok.asked (asked.2 roster peer given)) asked.0 within c.index_mut.ensures.value
    done.ensures.same done.result done.ensures.answer done.ensures.after _ _ c.answered.ensures
    c.reply_to_access.ensures

pub returns-in-Err-clause-step : goal.returns-in-Err-clause-step
returns-in-Err-clause-step g c = λ roster peer given.
    follows_as _ roster peer _ _ _ c.refused.ensures
    (not_accessed_by c.args.kind _ roster peer given c.args.reader c.args.scope c.args.condition c.in-Err.code
    (c.in-Err.ensures roster peer given))
