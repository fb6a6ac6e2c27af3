use Rattle.std.proofs.Common.{◌≡◌, ℕ, ◌*◌, ◌<◌}
use Rattle.rtps_sets.specs.Bits.{bit_of, is_free, AreWords}
use Rattle.rtps_sets.proofs.bits.Bits.free.Given as goal

abbrev pub invariant-loop-at : goal.invariant-loop-at
invariant-loop-at l = record {
  words : AreWords l.words;
  bits : (k : ℕ) → k < 64 * l.at → bit_of l.words k ≡ is_free l.held l.irrelevant l.place l.count k;
}
