use Rattle.std.proofs.Common.{arith}
use Rattle.rtps_sets.proofs.RingLaws.{ones_below, ones_all}
use Rattle.rtps_sets.proofs.bits.low_bits.Goals as goal

pub returns-then-count-lt64 : goal.returns-then-count-lt64
returns-then-count-lt64 c = λ i less. ones_below c.args.count i (omega (arith, c.if-count-lt64.true))

pub returns-else-count-lt64 : goal.returns-else-count-lt64
returns-else-count-lt64 c = λ i less. ones_all c.args.count i (omega (arith, c.if-count-lt64.false)) less
