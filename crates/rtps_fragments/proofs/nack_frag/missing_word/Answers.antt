use Rattle.std.proofs.Common.{◌≡◌, ◌+◌, arith, cond, false, refl, slice_index_or, true}
use Rattle.rtps_fragments.specs.NackFrag.{missing_word}
use Rattle.rtps_fragments.proofs.Missing.{below_more, bit_missing, bit_small, word_more}
use Rattle.rtps_fragments.proofs.nack_frag.missing_word.Goals as goal
use Rattle.rtps_fragments.proofs.nack_frag.missing_word.Goals.{else-is_missing, then-is_missing}

pub loop-at-init : goal.loop-at-init
unfolding missing_word
loop-at-init c = record { value = refl; small = omega arith }

pub loop-at-preserved : goal.loop-at-preserved
loop-at-preserved c =
    let there = slice_index_or c.args.came.now (c.args.place + c.loop-at.at) true in
    let is : c.if-is_missing.bit ≡ cond there 0 1 = elim c.if-is_missing.branch [
      | then-is_missing w ↦
          bit_missing there c.is_missing.result true c.if-is_missing.bit c.is_missing.ensures w.if-is_missing.true w.bit-is
      | else-is_missing w ↦
          bit_missing there c.is_missing.result false c.if-is_missing.bit c.is_missing.ensures w.if-is_missing.false w.bit-is
    ] in
    record {
      value = word_more c.args.came.now c.args.place c.loop-at.at c.loop-at.word c.if-is_missing.bit
          c.loop-at.invariant.value is;
      small = below_more c.loop-at.at c.loop-at.word c.if-is_missing.bit c.loop-at.invariant.small
          (bit_small there c.if-is_missing.bit is);
    }
