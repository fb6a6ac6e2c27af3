use Rattle.std.proofs.Common.{length}
use Rattle.rtps_announcements.proofs.ListLaws.{Walks}
use Rattle.rtps_announcements.proofs.list.has_parameters.Given as goal

-- what is left is a list where all of it is one
abbrev pub invariant-loop-parameter : goal.invariant-loop-parameter
invariant-loop-parameter l = Walks l.order l.known l.bytes l.left

abbrev pub decreases-loop-parameter : goal.decreases-loop-parameter
decreases-loop-parameter l = length l.left
