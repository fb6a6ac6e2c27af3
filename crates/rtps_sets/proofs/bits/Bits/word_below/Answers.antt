use Rattle.std.proofs.Common.{Bool, List, false, ◌+◌, ◌*◌, ◌&&◌, get_or, eqb, ltb, sym, ap, ◌∙◌, arith}
use Rattle.std.specs.Int.{bit_at}
use Rattle.rtps_sets.specs.BitLaws.{bit_in}
use Rattle.rtps_sets.proofs.RingLaws.{both_bit, bit_in_word, below_in_word}
use Rattle.rtps_sets.proofs.bits.Bits.word_below.Goals as goal

pub returns : goal.returns
returns c = λ i less.
    let word = get_or c.self.inside.words c.args.at 0 in
    both_bit word c.low_bits.result i
    ∙ (ap (λ (b : Bool). b && eqb (bit_at word i) 1)
    (c.low_bits.ensures i less
    ∙ below_in_word c.args.at i c.args.end c.saturating_sub.result c.saturating_sub.ensures)
    ∙ ap (λ (b : Bool). ltb (64 * c.args.at + i) c.args.end && b)
    (bit_in_word c.self.inside.words c.args.at i less
    ∙ (sym (bit_in c.self.inside.words (64 * c.args.at + i) (omega (arith, c.requires, less)))
    ∙ ap (λ (bits : List Bool). get_or bits (64 * c.args.at + i) false) c.self.view_is)))
