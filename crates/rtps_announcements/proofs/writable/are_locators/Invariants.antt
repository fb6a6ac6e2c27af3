use Rattle.std.proofs.Common.{◌≡◌, take}
use Rattle.std.specs.List.{AllByRecursion}
use Rattle.rtps_announcements.specs.Written.{IsLocator}
use Rattle.rtps_announcements.proofs.writable.are_locators.Given as goal

abbrev pub invariant-loop-locator : goal.invariant-loop-locator
invariant-loop-locator l = record {
  each : AllByRecursion IsLocator (take l.locator-index l.locator-items);
  same : l.locator-items ≡ l.locators;
}
