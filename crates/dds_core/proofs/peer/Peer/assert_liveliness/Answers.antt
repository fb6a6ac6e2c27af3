use Rattle.std.proofs.Common.{◌<◌, List, length, sym, subst, rules, refl}
use Rattle.std.proofs.lemmas.Option.{slice_get_read}
use Rattle.dds_protocol.specs.declared.event.Packet.{Packet}
use Rattle.dds_ends.specs.Beating.{TellsOf}
use Rattle.dds_core.proofs.AssertSteps.{asserts_at, asserts_sends, refuses_at}
use Rattle.dds_core.proofs.CallSteps.{follows_as, still_stands}
use Rattle.dds_core.proofs.peer.Peer.assert_liveliness.Goals as goal

-- what is told, as the answer has it
told : (c : goal.After-from_vec)
    → TellsOf c.self.inside.prefix c.index_mut.result.now c.from_vec.result c.in-Ok.field-0.unsent
told c =
    subst (λ (ps : List Packet). TellsOf c.self.inside.prefix c.index_mut.result.now ps c.in-Ok.field-0.unsent)
    (sym c.from_vec.ensures.elements) c.in-Ok.ensures.tells

pub returns-in-Ok-clause-step : goal.returns-in-Ok-clause-step
returns-in-Ok-clause-step c = λ roster peer given.
    let within : c.in-Some.index < length c.self.inside.writers.items = search rules in
    asserts_at _ c.args.writer c.in-Some.index c.index_mut.result.now c.assert.new.self roster peer
    (still_stands c.self.view_is given) c.in-Some.ensures.index.0
    (slice_get_read _ _ _ _ refl within c.index_mut.ensures.value) within c.in-Ok.ensures.ok _ _ (told c)

pub returns-in-Ok-clause-sends : goal.returns-in-Ok-clause-sends
returns-in-Ok-clause-sends c = λ roster peer given.
    let within : c.in-Some.index < length c.self.inside.writers.items = search rules in
    asserts_sends _ c.args.writer c.in-Some.index c.index_mut.result.now roster peer
    (still_stands c.self.view_is given) c.in-Some.ensures.index.0
    (slice_get_read _ _ _ _ refl within c.index_mut.ensures.value) _ _ (told c)

pub returns-in-Err-clause-step : goal.returns-in-Err-clause-step
returns-in-Err-clause-step c = λ roster peer given.
    let within : c.in-Some.index < length c.self.inside.writers.items = search rules in
    follows_as _ roster peer _ _ _ c.refused-in-Err.ensures
    (refuses_at _ c.args.writer c.in-Some.index c.index_mut.result.now c.assert.new.self c.in-Err.code roster peer
    (still_stands c.self.view_is given) c.in-Some.ensures.index.0
    (slice_get_read _ _ _ _ refl within c.index_mut.ensures.value) within c.in-Err.ensures.refused c.in-Err.ensures.err)
