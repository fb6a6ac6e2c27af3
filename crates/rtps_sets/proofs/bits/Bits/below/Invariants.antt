use Rattle.std.proofs.Common.{◌≡◌, ℕ, ◌*◌, ◌<◌, ◌&&◌, false, ltb, get_or}
use Rattle.rtps_sets.specs.Bits.{bit_of, AreWords}
use Rattle.rtps_sets.proofs.bits.Bits.below.Given as goal

abbrev pub invariant-loop-at : goal.invariant-loop-at
invariant-loop-at l = record {
  words : AreWords l.words;
  bits : (k : ℕ) → k < 64 * l.at → bit_of l.words k ≡ (ltb k l.end && get_or l.self k false);
}
