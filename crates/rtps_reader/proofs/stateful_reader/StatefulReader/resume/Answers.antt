use Rattle.rtps_reader.specs.Attached.{MeetsNews, no_news}
use Rattle.rtps_reader.proofs.ReaderLaws.{Opened, opened, lifted, news_map, keeps_all, sound_here, sound_set}
use Rattle.rtps_reader.proofs.stateful_reader.StatefulReader.resume.Given as given
use Rattle.rtps_reader.proofs.stateful_reader.StatefulReader.resume.Goals as goal

-- the writer's row, of the reader that is open
here : (g : given.Over) (c : goal.After-self-1 g)
    → Opened c.args.self.now c.self.inside.writers.items c.args.writer c.index_mut-known.result.now
here g c = opened c.self.view_is c.requires.matched c.index_mut-known.ensures.value

pub resume-requires-clause-sound : goal.resume-requires-clause-sound
resume-requires-clause-sound g c =
    sound_here c.self.invariant (opened c.self.view_is c.requires.matched c.index_mut-known.ensures.value)

pub invariant_of-self : goal.invariant_of-self
invariant_of-self g c = sound_set _ _ _ c.self.invariant c.resume.ensures.keeps.sound

pub returns-clause-meets : goal.returns-clause-meets
returns-clause-meets g c =
    lifted (here g c) (λ how match t h step Knows. MeetsNews how match no_news t h step Knows
    (g.S.Sink.stands c.resume.new.sink))
    (news_map no_news (g.S.Sink.stands c.resume.new.sink)) (g.S.Sink.qos c.args.sink.now)
    c.source_of-source.result c.args.moment (g.S.Sink.stands c.args.sink.now) c.resume.new.self c.resume.result
    c.source_of-source.ensures c.resume.ensures.meets

pub returns-clause-keeps : goal.returns-clause-keeps
returns-clause-keeps g c = keeps_all (here g c) c.resume.ensures.how c.resume.ensures.keeps
    c.resume.ensures.succeeds
