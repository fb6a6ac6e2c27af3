use Rattle.std.proofs.Common.{length}
use Rattle.dds_domain.proofs.Pieces.{HasNone}
use Rattle.dds_domain.proofs.asking.has_fragment_in.Given as goal

-- what was gone over has none
abbrev pub invariant-loop-frame : goal.invariant-loop-frame
invariant-loop-frame l = HasNone l.body l.left

abbrev pub decreases-loop-frame : goal.decreases-loop-frame
decreases-loop-frame l = length l.left
