-- those before the place are of other instances, or gone
use Rattle.std.proofs.Common.{length, ◌-◌}
use Rattle.dds_cache.specs.Chains.{AreChainsOf, IsFirst}
use Rattle.dds_cache.proofs.chains.Chains.first_left.Given as goal

abbrev pub invariant-loop-place : goal.invariant-loop-place
invariant-loop-place l = record {
  first : AreChainsOf l.samples l.self → IsFirst l.samples l.key l.fn.from
      → IsFirst l.samples l.key l.place;
}

abbrev pub decreases-loop-place : goal.decreases-loop-place
decreases-loop-place l = length l.samples - l.place
