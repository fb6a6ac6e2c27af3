use Rattle.std.proofs.Common.{◌*◌}
use Rattle.rtps_sets.specs.Bits.{IsSpan}
use Rattle.rtps_sets.proofs.bits.span_of.Given as goal

abbrev pub invariant-loop-at : goal.invariant-loop-at
invariant-loop-at l = IsSpan l.words (64 * l.at) l.bits
