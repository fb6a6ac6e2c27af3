use Rattle.std.proofs.Common.{refl}
use Rattle.dds_world.proofs.Holding.{not_set_at, set_at, stays_at}
use Rattle.dds_world.proofs.world.World.set_listener.Goals as goal

pub returns-in-Some-clause-ok : goal.returns-in-Some-clause-ok
returns-in-Some-clause-ok g c =
    set_at g.L.Listener.notices g.L.Listener.capacity g.L.Listener.becomes _ c.args.self.now c.in-Some.index c.args.peer c.count.result
    c.args.entity c.args.mask c.args.listener c.index_mut.result.now c.set_listener.new.self c.set_listener.result _
    c.self.view_is c.in-Some.ensures.index.0 c.in-Some.ensures.index.1 c.count.ensures c.index_mut.ensures.value refl
    c.set_listener.ensures.ok

pub returns-in-Some-clause-refused : goal.returns-in-Some-clause-refused
returns-in-Some-clause-refused g c =
    not_set_at g.L.Listener.notices g.L.Listener.capacity g.L.Listener.becomes _ c.args.self.now c.in-Some.index c.args.peer c.count.result
    c.args.entity c.args.listener c.index_mut.result.now c.set_listener.result c.self.view_is c.in-Some.ensures.index.0
    c.in-Some.ensures.index.1 c.count.ensures c.index_mut.ensures.value c.set_listener.ensures.refused

pub returns-in-Some-clause-err : goal.returns-in-Some-clause-err
returns-in-Some-clause-err g c =
    stays_at g.L.Listener.notices g.L.Listener.capacity g.L.Listener.becomes _ c.args.self.now c.in-Some.index c.index_mut.result.now
    c.set_listener.new.self c.set_listener.result c.self.view_is c.index_mut.ensures.value c.set_listener.ensures.err
