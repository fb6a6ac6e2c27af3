use Rattle.std.proofs.Common.{arith}
use Rattle.rtps_sets.proofs.WordLaws.{span_same, span_word}
use Rattle.rtps_sets.proofs.bits.span_of.Goals as goal
use Rattle.rtps_sets.proofs.bits.span_of.Goals.{then-word-ne0, else-word-ne0}

pub loop-at-preserved : goal.loop-at-preserved
loop-at-preserved c =
    elim c.if-word-ne0.branch [
      | then-word-ne0 w ↦
          rw w.bits-is
          (span_word c.args.words.now c.loop-at.at c.loop-at.bits c.loop-at.invariant (omega (arith, w.if-word-ne0.true))
          (c.requires.small c.loop-at.at))
      | else-word-ne0 w ↦
          rw w.bits-is
          (span_same c.args.words.now c.loop-at.at c.loop-at.bits c.loop-at.invariant w.if-word-ne0.false)
    ]
