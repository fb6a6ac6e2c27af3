-- those so far are lent
use Rattle.std.proofs.Common.{◌≡◌, take}
use Rattle.rtps_matching.proofs.owned.lent_locators.Given as goal

abbrev pub invariant-loop-locator : goal.invariant-loop-locator
invariant-loop-locator l = l.lent ≡ take l.locator-index l.locators
