use Rattle.rtps_sets.proofs.MarkLaws.{Clears}
use Rattle.rtps_sets.proofs.window.forget.Given as goal

abbrev pub invariant-loop-number : goal.invariant-loop-number
invariant-loop-number l = Clears l.fn.ring l.ring l.from l.number
