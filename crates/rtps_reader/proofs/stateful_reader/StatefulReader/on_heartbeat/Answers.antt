use Rattle.std.proofs.Common.{◌≡◌, true}
use Rattle.dds_base.specs.Counts.{is_later}
use Rattle.rtps_reader.specs.Attached.{MeetsHeartbeat}
use Rattle.rtps_reader.proofs.ReaderLaws.{Opened, opened, lifted, heartbeat_map, keeps_all, sound_here, sound_set, repeated_all}
use Rattle.rtps_reader.proofs.stateful_reader.StatefulReader.on_heartbeat.Given as given
use Rattle.rtps_reader.proofs.stateful_reader.StatefulReader.on_heartbeat.Goals as goal

-- the writer's row, of the reader that is open
here : (g : given.Over) (c : goal.After-self-1 g)
    → Opened c.args.self.now c.self.inside.writers.items c.args.writer c.index_mut-known.result.now
here g c = opened c.self.view_is c.requires.matched c.index_mut-known.ensures.value

pub on_heartbeat-requires-clause-sound : goal.on_heartbeat-requires-clause-sound
on_heartbeat-requires-clause-sound g c =
    sound_here c.self.invariant (opened c.self.view_is c.requires.matched c.index_mut-known.ensures.value)

pub invariant_of-self : goal.invariant_of-self
invariant_of-self g c = sound_set _ _ _ c.self.invariant c.on_heartbeat.ensures.keeps.sound

pub returns-clause-accepted : goal.returns-clause-accepted
returns-clause-accepted g c =
    lifted (here g c) (λ how match t h step Knows. is_later t.count c.args.heartbeat.now.count ≡ true
    → MeetsHeartbeat how match t h c.args.heartbeat.now step Knows
    (g.S.Sink.stands c.on_heartbeat.new.sink))
    (heartbeat_map c.args.heartbeat.now (g.S.Sink.stands c.on_heartbeat.new.sink)) (g.S.Sink.qos c.args.sink.now)
    c.source_of-source.result c.args.moment (g.S.Sink.stands c.args.sink.now) c.on_heartbeat.new.self c.on_heartbeat.result
    c.source_of-source.ensures c.on_heartbeat.ensures.meets

pub returns-clause-repeated : goal.returns-clause-repeated
returns-clause-repeated g c =
    repeated_all (here g c) g.S.Sink.stands c.on_heartbeat.new.self c.args.sink.now c.on_heartbeat.new.sink
    c.args.heartbeat.now c.on_heartbeat.result c.on_heartbeat.ensures.repeated

pub returns-clause-keeps : goal.returns-clause-keeps
returns-clause-keeps g c = keeps_all (here g c) c.on_heartbeat.ensures.how c.on_heartbeat.ensures.keeps
    c.on_heartbeat.ensures.succeeds
