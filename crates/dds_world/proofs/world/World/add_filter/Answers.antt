use Rattle.std.proofs.Common.{refl}
use Rattle.dds_world.proofs.Holding.{add_at, refuse_at, stays_at}
use Rattle.dds_world.proofs.world.World.add_filter.Goals as goal

pub returns-in-Some-clause-ok : goal.returns-in-Some-clause-ok
returns-in-Some-clause-ok g c =
    add_at g.L.Listener.notices g.L.Listener.capacity g.L.Listener.becomes _ c.args.self.now c.in-Some.index c.args.peer c.count.result
    c.args.filter c.index_mut.result.now c.add_filter.new.self c.add_filter.result _ c.self.view_is c.in-Some.ensures.index.0
    c.in-Some.ensures.index.1 c.count.ensures c.index_mut.ensures.value refl c.add_filter.ensures.ok

pub returns-in-Some-clause-refused : goal.returns-in-Some-clause-refused
returns-in-Some-clause-refused g c =
    refuse_at g.L.Listener.notices g.L.Listener.capacity g.L.Listener.becomes _ c.args.self.now c.in-Some.index c.args.peer c.count.result
    c.index_mut.result.now c.add_filter.result c.self.view_is c.in-Some.ensures.index.0 c.in-Some.ensures.index.1 c.count.ensures
    c.index_mut.ensures.value c.add_filter.ensures.refused

pub returns-in-Some-clause-err : goal.returns-in-Some-clause-err
returns-in-Some-clause-err g c =
    stays_at g.L.Listener.notices g.L.Listener.capacity g.L.Listener.becomes _ c.args.self.now c.in-Some.index c.index_mut.result.now
    c.add_filter.new.self c.add_filter.result c.self.view_is c.index_mut.ensures.value c.add_filter.ensures.err
