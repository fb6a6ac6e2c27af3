use Rattle.std.proofs.Common.{length}
use Rattle.rtps_announcements.proofs.LocatorLaws.{Gathers}
use Rattle.rtps_announcements.proofs.locator.locators_in.Given as goal

-- what was found is what was passed says
abbrev pub invariant-loop-parameter : goal.invariant-loop-parameter
invariant-loop-parameter l = Gathers l.order l.id l.list l.left l.items.items

abbrev pub decreases-loop-parameter : goal.decreases-loop-parameter
decreases-loop-parameter l = length l.left
