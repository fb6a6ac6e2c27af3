use Rattle.std.proofs.Common.{◌<◌, ◌+◌, ◌%◌, ◌^◌, Bool, not, ◌&&◌, ◌||◌, false, eqb, get_or, nat_lt, ap, ◌∙◌, arith}
use Rattle.std.specs.Int.{bit_at}
use Rattle.std.proofs.lemmas.Nat.{or_lt}
use Rattle.rtps_sets.proofs.RingLaws.{free_bit}
use Rattle.rtps_sets.proofs.bits.free_word.Goals as goal

pub returns : goal.returns
returns c = λ i less.
    let held : c.word_from.result < 2 ^ 64 = omega (arith, c.word_from.type_inv) in
    let irrelevant : c.word_from-2.result < 2 ^ 64 = omega (arith, c.word_from-2.type_inv) in
    free_bit c.word_from.result c.word_from-2.result c.low_bits.result i
    (or_lt 64 c.word_from.result c.word_from-2.result held irrelevant) less
    ∙ (ap
    (λ (b : Bool). b && not (eqb (bit_at c.word_from.result i) 1 || eqb (bit_at c.word_from-2.result i) 1))
    (c.low_bits.ensures i less)
    ∙ (ap (λ (b : Bool). nat_lt i c.args.count && not (b || eqb (bit_at c.word_from-2.result i) 1))
    (c.word_from.ensures i less)
    ∙ ap
    (λ (b : Bool).
    nat_lt i c.args.count && not (get_or c.args.held.now ((c.args.place + i) % 256) false || b))
    (c.word_from-2.ensures i less)))
