use Rattle.rtps_reader.specs.Attached.{MeetsChange}
use Rattle.rtps_reader.proofs.ReaderLaws.{Opened, opened, lifted, change_map, keeps_all, sound_here, sound_set}
use Rattle.rtps_reader.proofs.stateful_reader.StatefulReader.on_best_effort_data.Given as given
use Rattle.rtps_reader.proofs.stateful_reader.StatefulReader.on_best_effort_data.Goals as goal

-- the writer's row, of the reader that is open
here : (g : given.Over) (c : goal.After-self-1 g)
    → Opened c.args.self.now c.self.inside.writers.items c.args.writer c.index_mut-known.result.now
here g c = opened c.self.view_is c.requires.matched c.index_mut-known.ensures.value

pub on_best_effort_data-requires-clause-sound : goal.on_best_effort_data-requires-clause-sound
on_best_effort_data-requires-clause-sound g c =
    sound_here c.self.invariant (opened c.self.view_is c.requires.matched c.index_mut-known.ensures.value)

pub invariant_of-self : goal.invariant_of-self
invariant_of-self g c = sound_set _ _ _ c.self.invariant c.on_best_effort_data.ensures.keeps.sound

pub returns-clause-meets : goal.returns-clause-meets
returns-clause-meets g c =
    lifted (here g c) (λ how match t h step Knows. MeetsChange how match t h c.args.number c.args.change step Knows
    (g.S.Sink.stands c.on_best_effort_data.new.sink))
    (change_map c.args.number c.args.change (g.S.Sink.stands c.on_best_effort_data.new.sink)) (g.S.Sink.qos c.args.sink.now)
    c.source_of-source.result c.args.moment (g.S.Sink.stands c.args.sink.now) c.on_best_effort_data.new.self c.on_best_effort_data.result
    c.source_of-source.ensures c.on_best_effort_data.ensures.meets

pub returns-clause-keeps : goal.returns-clause-keeps
returns-clause-keeps g c = keeps_all (here g c) c.on_best_effort_data.ensures.how c.on_best_effort_data.ensures.keeps
    c.on_best_effort_data.ensures.succeeds
