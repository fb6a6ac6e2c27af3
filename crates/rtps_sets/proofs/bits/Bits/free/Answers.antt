use Rattle.std.proofs.Common.{◌∙◌, arith}
use Rattle.rtps_sets.specs.BitLaws.{bit_in, length-bits}
use Rattle.rtps_sets.proofs.bits.Bits.free.Goals as goal

pub returns-clause-each : goal.returns-clause-each
returns-clause-each c = λ k lt.
    bit_in c.loop-at.words k lt ∙ c.loop-at.invariant.bits k (omega (arith, c.loop-at-test.false))

pub returns-clause-count : goal.returns-clause-count
returns-clause-count c = length-bits c.loop-at.words
