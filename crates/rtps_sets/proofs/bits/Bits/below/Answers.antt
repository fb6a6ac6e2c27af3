use Rattle.std.proofs.Common.{ltb, ◌&&◌, get_or, false, ◌∙◌, arith}
use Rattle.rtps_sets.specs.BitLaws.{bit_in}
use Rattle.rtps_sets.proofs.RingLaws.{bits_more}
use Rattle.rtps_sets.proofs.WordLaws.{words_with}
use Rattle.rtps_sets.proofs.bits.Bits.below.Goals as goal

pub loop-at-preserved : goal.loop-at-preserved
loop-at-preserved c =
    let it = c.loop-at.invariant in
    record {
      words = words_with c.loop-at.words c.loop-at.at c.word_below.result it.words (omega (arith, c.word_below.type_inv));
      bits = bits_more c.loop-at.words c.loop-at.at c.word_below.result
          (λ k. ltb k c.args.end && get_or c.args.self.now k false) it.words
          c.loop-at-test.true it.bits c.word_below.ensures;
    }

pub returns : goal.returns
returns c = record {
  each = λ k lt.
      bit_in c.loop-at.words k lt ∙ c.loop-at.invariant.bits k (omega (arith, lt, c.loop-at-test.false));
}
