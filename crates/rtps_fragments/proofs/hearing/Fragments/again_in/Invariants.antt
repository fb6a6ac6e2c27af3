-- what is to come makes it up
use Rattle.std.proofs.Common.{length}
use Rattle.rtps_fragments.proofs.Again.{GoesSo}
use Rattle.rtps_fragments.proofs.hearing.Fragments.again_in.Given as goal

abbrev pub invariant-loop-frame : goal.invariant-loop-frame
invariant-loop-frame l = GoesSo l.self l.source l.body l.left l.again.items

abbrev pub decreases-loop-frame : goal.decreases-loop-frame
decreases-loop-frame l = length l.left
