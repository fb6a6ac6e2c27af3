use Rattle.std.proofs.Common.{length}
use Rattle.rtps_fragments.proofs.Going.{Goes}
use Rattle.rtps_fragments.proofs.hearing.Fragments.hear_body.Given as goal

abbrev pub invariant-loop-frame : goal.invariant-loop-frame
invariant-loop-frame l = Goes l.fn.in_force l.body l.left l.initial.self l.self l.initial.whole.items l.whole.items l.in_force_now

abbrev pub decreases-loop-frame : goal.decreases-loop-frame
decreases-loop-frame l = length l.left
