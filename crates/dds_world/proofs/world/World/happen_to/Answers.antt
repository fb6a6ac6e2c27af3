use Rattle.dds_world.proofs.Holding.{happened_in, no_peer_in}
use Rattle.dds_world.proofs.world.World.happen_to.Goals as goal

pub returns-in-Some : goal.returns-in-Some
returns-in-Some g c = λ whole of.
    happened_in g.F.Filter.meaning g.L.Listener.notices g.L.Listener.capacity g.L.Listener.becomes c.args.self.now c.happen_at.new.self
    c.in-Some.index c.args.peer c.args.event whole c.happen_at.result c.in-Some.ensures.index.0 of c.happen_at.ensures

pub returns-in-None : goal.returns-in-None
returns-in-None g c = λ whole of.
    no_peer_in g.F.Filter.meaning g.L.Listener.notices g.L.Listener.capacity g.L.Listener.becomes c.args.self.now c.args.peer c.count.result
    c.args.event whole c.count.ensures c.in-None.ensures.index of
