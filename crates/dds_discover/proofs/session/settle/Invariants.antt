-- the steps so far are printed
use Rattle.dds_discover.specs.Session.{Prints, Runs}
use Rattle.dds_discover.proofs.session.settle.Given as goal

abbrev pub invariant-loop-count : goal.invariant-loop-count
invariant-loop-count g l =
    Prints (g.W.Write.contents l.initial.output) (g.W.Write.contents l.output)
    (λ text. Runs l._count l.initial.discovery text l.discovery)
