use Rattle.rtps_reader.proofs.ReaderLaws.{Opened, opened, all_stand, all_stay, same_count, ready_of, ready_set, sound_here, sound_set}
use Rattle.rtps_reader.proofs.stateful_reader.StatefulReader.reserve_for.Given as given
use Rattle.rtps_reader.proofs.stateful_reader.StatefulReader.reserve_for.Goals as goal

-- the writer's proxy, of the reader that is open
here : (g : given.Over) (c : goal.After-self-1 g)
    → Opened c.args.self.now c.self.inside.writers.items c.args.writer c.index_mut.result.now
here g c = opened c.self.view_is c.requires.matched c.index_mut.ensures.value

pub invariant_of-self : goal.invariant_of-self
invariant_of-self g c =
    sound_set _ _ _ c.self.invariant (c.reserve.ensures.sound (sound_here c.self.invariant (here g c)))

pub returns-clause-same : goal.returns-clause-same
returns-clause-same g c = all_stay (here g c) c.reserve.new.self c.reserve.ensures.same

pub returns-clause-count : goal.returns-clause-count
returns-clause-count g c = same_count (here g c) c.reserve.new.self

pub returns-clause-ok : goal.returns-clause-ok
returns-clause-ok g c =
    ready_set (here g c) c.reserve.new.self (g.S.Sink.spare c.reserve.new.sink) c.reserve.result c.reserve.ensures.ok

pub returns-clause-succeeds : goal.returns-clause-succeeds
returns-clause-succeeds g c = λ ready. c.reserve.ensures.succeeds (ready_of (here g c) _ ready)

pub returns-clause-how : goal.returns-clause-how
returns-clause-how g c = all_stand (here g c) c.reserve.new.self c.reserve.ensures.how
