use Rattle.std.proofs.Common.{List, length, ◌≤◌, All, sym, subst, ◌∙◌}
use Rattle.dds_trace.specs.declared.trace.Entry.{Entry}
use Rattle.dds_shared.specs.Passes.{SameSeats}
use Rattle.dds_shared.proofs.recorded.Shared+N+F+L+Recorded+Recorded.close.Goals as goal

pub returns-clause-lists : goal.returns-clause-lists
returns-clause-lists g c =
    let kept = c.in_ok-core.ensures.history in
    subst (λ (es : List Entry). SameSeats es c.args.passes.items) (sym (c.from_entries-trace.ensures.entries ∙ kept.1))
    kept.0.lists

pub returns-clause-fronts : goal.returns-clause-fronts
returns-clause-fronts g c =
    let kept = c.in_ok-core.ensures.history in
    subst (λ (es : List Entry). All (λ p. p.front ≤ length es) c.args.passes.items)
    (sym (c.from_entries-trace.ensures.entries ∙ kept.1)) kept.0.fronts
