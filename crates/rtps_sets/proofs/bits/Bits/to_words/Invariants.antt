use Rattle.std.proofs.Common.{◌≡◌, ℕ, ◌*◌, ◌<◌, false, get_or, length}
use Rattle.rtps_sets.specs.Mirror.{wire_flag}
use Rattle.rtps_sets.proofs.bits.Bits.to_words.Given as goal

abbrev pub invariant-loop-at : goal.invariant-loop-at
invariant-loop-at l = record {
  count : length l.words ≡ 8;
  bits : (k : ℕ) → k < 64 * l.at → wire_flag l.words k ≡ get_or l.self k false;
}
