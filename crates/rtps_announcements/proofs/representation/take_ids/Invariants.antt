use Rattle.std.proofs.Common.{◌-◌, length}
use Rattle.std.specs.Int.{w16}
use Rattle.dds_base.specs.Fields.{number_at}
use Rattle.rtps_announcements.proofs.CountLaws.{Counts}
use Rattle.rtps_announcements.proofs.representation.take_ids.Given as goal

-- so many were read
abbrev pub invariant-loop-left : goal.invariant-loop-left
invariant-loop-left l = Counts (number_at l.order w16) l.count l.bytes l.ids.items l.left

abbrev pub decreases-loop-left : goal.decreases-loop-left
decreases-loop-left l = l.count - length l.ids.items
