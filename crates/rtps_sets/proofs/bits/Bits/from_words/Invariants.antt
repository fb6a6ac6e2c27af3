use Rattle.std.proofs.Common.{◌≡◌, ℕ, ◌*◌, ◌<◌, ◌&&◌, ltb}
use Rattle.rtps_sets.specs.Bits.{bit_of, AreWords}
use Rattle.rtps_sets.specs.Mirror.{wire_flag}
use Rattle.rtps_sets.proofs.bits.Bits.from_words.Given as goal

abbrev pub invariant-loop-at : goal.invariant-loop-at
invariant-loop-at l = record {
  words : AreWords l.made;
  bits : (k : ℕ) → k < 64 * l.at → bit_of l.made k ≡ (ltb k l.count && wire_flag l.words k);
}
