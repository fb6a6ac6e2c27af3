use Rattle.std.proofs.Common.{List, subst, sym}
use Rattle.dds_core.specs.declared.misses.Miss.{Miss}
use Rattle.dds_core.specs.Listening.{Adds, CoreKept, RefusesFilter}
use Rattle.dds_core.specs.Remembering.{Remembers}
use Rattle.dds_core.proofs.Remembered.{remembers_filter}
use Rattle.dds_core.proofs.mindful.Mindful.add_filter.Goals as goal

pub returns-in-Ok-clause-ok : goal.returns-in-Ok-clause-ok
returns-in-Ok-clause-ok g c =
    subst (λ (k : CoreKept g.row.F.Denot g.row.L.Denot).
    Adds g.L.Listener.notices g.L.Listener.capacity g.L.Listener.becomes k c.args.filter c.in-Ok.number c.add_filter.new.self)
    c.self.view_is c.in-Ok.ensures.ok

pub invariant_of-self : goal.invariant_of-self
invariant_of-self g c =
    subst (λ (ms : List Miss). Remembers g.L.Listener.notices g.L.Listener.capacity g.L.Listener.becomes
    g.F.Filter.meaning c.add_filter.new.self ms) (sym c.forget.ensures)
    (remembers_filter g.L.Listener.notices g.L.Listener.capacity g.L.Listener.becomes g.F.Filter.meaning
    c.self.inside.core c.self.inside.misses c.args.filter c.in-Ok.number c.add_filter.new.self c.self.invariant
    c.in-Ok.ensures.ok)

pub returns-in-Err-clause-refused : goal.returns-in-Err-clause-refused
returns-in-Err-clause-refused g c =
    subst (λ (k : CoreKept g.row.F.Denot g.row.L.Denot).
    RefusesFilter g.L.Listener.notices g.L.Listener.capacity g.L.Listener.becomes k c.in-Err.refused.0)
    c.self.view_is c.in-Err.ensures.refused

pub invariant_of-self-in-Err : goal.invariant_of-self-in-Err
invariant_of-self-in-Err g c =
    subst (λ (k : CoreKept g.row.F.Denot g.row.L.Denot). Remembers g.L.Listener.notices g.L.Listener.capacity g.L.Listener.becomes
    g.F.Filter.meaning k c.self.inside.misses) (sym c.in-Err.ensures.err) c.self.invariant
