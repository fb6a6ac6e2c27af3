use Rattle.std.proofs.Common.{◌≤◌, List, length, ap, subst}
use Rattle.std.specs.Prelude.{All}
use Rattle.dds_trace.specs.declared.trace.Entry.{Entry}
use Rattle.dds_shared.specs.Locks.{Kept}
use Rattle.dds_shared.specs.Passes.{Carried, SameSeats}
use Rattle.dds_shared.proofs.locked.Locked.close.Goals as goal

pub returns-clause-lists : goal.returns-clause-lists
returns-clause-lists g c =
    let entries = ap (λ (k : Kept g.row.F.Denot g.row.L.Denot). k.entries) c.self.view_is in
    subst (λ (es : List Entry). SameSeats es c.args.passes.items) entries c.give_all.ensures.lists

pub returns-clause-fronts : goal.returns-clause-fronts
returns-clause-fronts g c =
    let entries = ap (λ (k : Kept g.row.F.Denot g.row.L.Denot). k.entries) c.self.view_is in
    subst (λ (es : List Entry). All (λ (p : Carried). p.front ≤ length es) c.args.passes.items) entries
    c.give_all.ensures.fronts
