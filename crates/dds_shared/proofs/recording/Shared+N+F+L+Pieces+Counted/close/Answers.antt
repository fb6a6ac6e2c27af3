use Rattle.std.proofs.Common.{List, length, ◌≤◌, All, subst}
use Rattle.dds_trace.specs.declared.trace.Entry.{Entry}
use Rattle.dds_shared.specs.Passes.{SameSeats}
use Rattle.dds_shared.proofs.recording.Shared+N+F+L+Pieces+Counted.close.Goals as goal

pub returns-in-Ok-clause-lists : goal.returns-in-Ok-clause-lists
returns-in-Ok-clause-lists g c =
    subst (λ (es : List Entry). SameSeats es c.args.passes.items) c.in-Ok.ensures.all c.close-core.ensures.lists

pub returns-in-Ok-clause-fronts : goal.returns-in-Ok-clause-fronts
returns-in-Ok-clause-fronts g c =
    subst (λ (es : List Entry). All (λ p. p.front ≤ length es) c.args.passes.items) c.in-Ok.ensures.all
    c.close-core.ensures.fronts
