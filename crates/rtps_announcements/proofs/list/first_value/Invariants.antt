use Rattle.std.proofs.Common.{length}
use Rattle.rtps_announcements.proofs.ListLaws.{Seeks}
use Rattle.rtps_announcements.proofs.list.first_value.Given as goal

-- looking for it goes on from what is left
abbrev pub invariant-loop-parameter : goal.invariant-loop-parameter
invariant-loop-parameter l = Seeks l.order l.id l.bytes l.left

abbrev pub decreases-loop-parameter : goal.decreases-loop-parameter
decreases-loop-parameter l = length l.left
