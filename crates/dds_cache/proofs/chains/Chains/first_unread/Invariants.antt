-- those before the place are of other instances, or were returned
use Rattle.std.proofs.Common.{length, ◌-◌}
use Rattle.dds_cache.specs.Chains.{AreChainsOf, IsFirstUnread}
use Rattle.dds_cache.proofs.chains.Chains.first_unread.Given as goal

abbrev pub invariant-loop-place : goal.invariant-loop-place
invariant-loop-place l = record {
  unread : AreChainsOf l.samples l.self → IsFirstUnread l.samples l.key l.fn.from
      → IsFirstUnread l.samples l.key l.place;
}

abbrev pub decreases-loop-place : goal.decreases-loop-place
decreases-loop-place l = length l.samples - l.place
