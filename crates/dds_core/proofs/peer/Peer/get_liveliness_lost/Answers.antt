use Rattle.std.proofs.Common.{◌<◌, length, rules, refl}
use Rattle.std.proofs.lemmas.Option.{slice_get_read}
use Rattle.dds_core.proofs.CallSteps.{follows_as, looks_at, still_stands}
use Rattle.dds_core.proofs.peer.Peer.get_liveliness_lost.Goals as goal

pub returns-clause-step : goal.returns-clause-step
returns-clause-step c = λ roster peer given.
    let within : c.in-Some.index < length c.self.inside.writers.items = search rules in
    follows_as _ roster peer _ _ _ c.answered.ensures
    (looks_at _ c.args.writer c.in-Some.index c.index_mut.result.now c.get_liveliness_lost-status.new.self
    c.get_liveliness_lost-status.result roster peer (still_stands c.self.view_is given) c.in-Some.ensures.index.0
    (slice_get_read _ _ _ _ refl within c.index_mut.ensures.value) within c.get_liveliness_lost-status.ensures.status
    c.get_liveliness_lost-status.ensures.enters)
