use Rattle.std.proofs.Common.{◌-◌, length}
use Rattle.rtps_announcements.specs.ValueAt.{padded_name_at}
use Rattle.rtps_announcements.proofs.CountLaws.{Counts}
use Rattle.rtps_announcements.proofs.partition.take_names.Given as goal

-- so many were read
abbrev pub invariant-loop-left : goal.invariant-loop-left
invariant-loop-left l = Counts (padded_name_at l.order) l.count l.bytes l.names.items l.left

abbrev pub decreases-loop-left : goal.decreases-loop-left
decreases-loop-left l = l.count - length l.names.items
