use mir.Val.{SFits}
use Rattle.std.proofs.Common.{◌<◌, length, rules, refl, subst}
use Rattle.std.specs.Prelude.{ℤ}
use Rattle.std.specs.Int.{w32}
use Rattle.std.proofs.lemmas.Int.{to_z-of_z}
use Rattle.std.proofs.lemmas.Option.{slice_get_read}
use Rattle.dds_base.specs.Written.{StrengthSet}
use Rattle.dds_ends.specs.Stepping.{Enters}
use Rattle.dds_core.proofs.CallSteps.{follows_as, still_stands}
use Rattle.dds_core.proofs.StrengthSteps.{sets_at, shared_at}
use Rattle.dds_core.proofs.peer.Peer.set_strength.Goals as goal

pub returns-in-Ok-clause-step : goal.returns-in-Ok-clause-step
returns-in-Ok-clause-step c = λ roster peer given.
    let within : c.in-Some.index < length c.self.inside.writers.items = search rules in
    let fits : SFits w32 c.args.strength = search rules in
    follows_as _ roster peer _ _ _ c.answered.ensures
    (sets_at _ c.args.writer c.in-Some.index c.index_mut.result.now c.set_strength.new.self c.args.strength roster peer
    (still_stands c.self.view_is given) c.in-Some.ensures.index.0
    (slice_get_read _ _ _ _ refl within c.index_mut.ensures.value) within c.in-Ok.ensures.accepted
    (subst (λ (z : ℤ). Enters c.index_mut.result.now (StrengthSet z) c.set_strength.new.self)
    (to_z-of_z w32 c.args.strength fits) c.in-Ok.ensures.ok))

pub returns-in-Err-clause-step : goal.returns-in-Err-clause-step
returns-in-Err-clause-step c = λ roster peer given.
    let within : c.in-Some.index < length c.self.inside.writers.items = search rules in
    follows_as _ roster peer _ _ _ c.refused-in-Err.ensures
    (shared_at _ c.args.writer c.in-Some.index c.index_mut.result.now c.set_strength.new.self c.args.strength
    c.in-Err.code roster peer (still_stands c.self.view_is given) c.in-Some.ensures.index.0
    (slice_get_read _ _ _ _ refl within c.index_mut.ensures.value) within c.in-Err.ensures.refused
    c.in-Err.ensures.err)
