use Rattle.std.proofs.Common.{subst}
use Rattle.std.specs.Prelude.{IfErr, IfOk}
use Rattle.dds_core.specs.Listening.{CoreKept, RefusesListener, Sets}
use Rattle.dds_core.proofs.Remembered.{remembers_set}
use Rattle.dds_core.proofs.mindful.Mindful.set_listener.Goals as goal

pub returns-clause-ok : goal.returns-clause-ok
returns-clause-ok g c =
    subst (λ (k : CoreKept g.row.F.Denot g.row.L.Denot). IfOk c.set_listener.result
    (λ handed. Sets g.L.Listener.notices g.L.Listener.capacity g.L.Listener.becomes k c.args.entity c.args.mask
    c.args.listener handed c.set_listener.new.self))
    c.self.view_is c.set_listener.ensures.ok

pub returns-clause-refused : goal.returns-clause-refused
returns-clause-refused g c =
    subst (λ (k : CoreKept g.row.F.Denot g.row.L.Denot). IfErr c.set_listener.result
    (λ e. RefusesListener g.L.Listener.notices g.L.Listener.capacity g.L.Listener.becomes k c.args.entity
    c.args.listener e.0))
    c.self.view_is c.set_listener.ensures.refused

pub invariant_of-self : goal.invariant_of-self
invariant_of-self g c =
    remembers_set g.L.Listener.notices g.L.Listener.capacity g.L.Listener.becomes g.F.Filter.meaning c.self.inside.core
    c.self.inside.misses c.args.entity c.args.mask c.args.listener c.set_listener.new.self c.set_listener.result
    c.self.invariant c.set_listener.ensures.ok c.set_listener.ensures.err
