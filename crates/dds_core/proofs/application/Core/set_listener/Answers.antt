use Rattle.std.proofs.Common.{subst}
use Rattle.std.specs.Prelude.{IfErr, IfOk}
use Rattle.dds_core.specs.Listening.{CoreKept, RefusesListener, Sets}
use Rattle.dds_core.proofs.Ended.{refuses_listener, sets}
use Rattle.dds_ends.proofs.Results.{err_as, ok_as}
use Rattle.dds_core.proofs.application.Core.set_listener.Goals as goal

pub returns-clause-ok : goal.returns-clause-ok
returns-clause-ok g c =
    let kept : CoreKept g.row.F.Denot g.row.L.Denot =
    record { filtered = c.self.inside.filtered; listeners = c.self.inside.listeners } in
    subst (λ (k : CoreKept g.row.F.Denot g.row.L.Denot). IfOk c.set.result
    (λ handed. Sets g.L.Listener.notices g.L.Listener.capacity g.L.Listener.becomes k c.args.entity c.args.mask c.args.listener handed
    (record { filtered = c.self.inside.filtered; listeners = c.set.new.self })))
    c.self.view_is
    (ok_as c.set.result
    (λ handed. sets g.L.Listener.notices g.L.Listener.capacity g.L.Listener.becomes kept c.args.entity c.args.mask c.args.listener handed
    c.set.new.self) c.set.ensures.ok)

pub returns-clause-refused : goal.returns-clause-refused
returns-clause-refused g c =
    let kept : CoreKept g.row.F.Denot g.row.L.Denot =
    record { filtered = c.self.inside.filtered; listeners = c.self.inside.listeners } in
    subst (λ (k : CoreKept g.row.F.Denot g.row.L.Denot). IfErr c.set.result
    (λ e. RefusesListener g.L.Listener.notices g.L.Listener.capacity g.L.Listener.becomes k c.args.entity c.args.listener e.0))
    c.self.view_is
    (err_as c.set.result
    (λ e. refuses_listener g.L.Listener.notices g.L.Listener.capacity g.L.Listener.becomes kept c.args.entity c.args.listener e.0)
    c.set.ensures.refused)
