use Rattle.std.proofs.Common.{subst}
use Rattle.std.specs.Prelude.{IfErr, IfOk}
use Rattle.dds_core.specs.Listening.{Adds, CoreKept, RefusesFilter}
use Rattle.dds_core.proofs.Ended.{adds, refuses}
use Rattle.dds_ends.proofs.Results.{err_as, ok_as}
use Rattle.dds_core.proofs.application.Core.add_filter.Goals as goal

pub returns-clause-ok : goal.returns-clause-ok
returns-clause-ok g c =
    let kept : CoreKept g.row.F.Denot g.row.L.Denot =
    record { filtered = c.self.inside.filtered; listeners = c.self.inside.listeners } in
    subst (λ (k : CoreKept g.row.F.Denot g.row.L.Denot). IfOk c.add_filter.result
    (λ number. Adds g.L.Listener.notices g.L.Listener.capacity g.L.Listener.becomes k c.args.filter number
    (record { filtered = c.add_filter.new.self; listeners = c.self.inside.listeners })))
    c.self.view_is (ok_as c.add_filter.result
    (λ number. adds g.L.Listener.notices g.L.Listener.capacity g.L.Listener.becomes kept c.args.filter number c.add_filter.new.self)
    c.add_filter.ensures.ok)

pub returns-clause-refused : goal.returns-clause-refused
returns-clause-refused g c =
    let kept : CoreKept g.row.F.Denot g.row.L.Denot =
    record { filtered = c.self.inside.filtered; listeners = c.self.inside.listeners } in
    subst (λ (k : CoreKept g.row.F.Denot g.row.L.Denot). IfErr c.add_filter.result
    (λ e. RefusesFilter g.L.Listener.notices g.L.Listener.capacity g.L.Listener.becomes k e.0))
    c.self.view_is (err_as c.add_filter.result
    (λ e. refuses g.L.Listener.notices g.L.Listener.capacity g.L.Listener.becomes kept e.0) c.add_filter.ensures.refused)
