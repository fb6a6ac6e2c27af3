use Rattle.std.proofs.Common.{◌<◌, length, rules, refl}
use Rattle.std.proofs.lemmas.Option.{slice_get_read}
use Rattle.dds_core.proofs.CallSteps.{follows_as, still_stands}
use Rattle.dds_core.proofs.ReaderSteps.{joins_at, joins_not}
use Rattle.dds_core.proofs.peer.Peer.match_reader.Goals as goal

pub returns-in-Ok-clause-step : goal.returns-in-Ok-clause-step
returns-in-Ok-clause-step c = λ roster peer given.
    let within : c.in-Some.index < length c.self.inside.writers.items = search rules in
    follows_as _ roster peer _ _ _ c.answered.ensures
    (joins_at _ c.args.writer c.in-Some.index c.index_mut.result.now c.join.new.self c.args.reader c.args.greeted roster peer
    (still_stands c.self.view_is given) c.in-Some.ensures.index.0
    (slice_get_read _ _ _ _ refl within c.index_mut.ensures.value) c.in-Ok.ensures.accepted c.in-Ok.ensures.ok)

pub returns-in-Err-clause-step : goal.returns-in-Err-clause-step
returns-in-Err-clause-step c = λ roster peer given.
    let within : c.in-Some.index < length c.self.inside.writers.items = search rules in
    follows_as _ roster peer _ _ _ c.refused-in-Err.ensures
    (joins_not _ c.args.writer c.in-Some.index c.index_mut.result.now c.join.new.self c.args.reader c.args.greeted c.in-Err.code roster
    peer (still_stands c.self.view_is given) c.in-Some.ensures.index.0
    (slice_get_read _ _ _ _ refl within c.index_mut.ensures.value) c.in-Err.ensures.refused c.in-Err.ensures.err)
