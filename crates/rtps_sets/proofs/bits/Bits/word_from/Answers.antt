use Rattle.std.proofs.Common.{Bool, List, false, get_or, ◌+◌, ◌%◌, sym, ap, ◌∙◌, arith}
use Rattle.rtps_sets.specs.BitLaws.{bit_in}
use Rattle.rtps_sets.proofs.RingLaws.{ring_at, ring_over}
use Rattle.rtps_sets.proofs.bits.Bits.word_from.Goals as goal

pub returns-then-place-eq0 : goal.returns-then-place-eq0
returns-then-place-eq0 c = λ i less.
    ring_at c.self.inside.words c.args.place i c.requires less (omega (arith, c.if-place-eq0.true))
    ∙ (sym (bit_in c.self.inside.words ((c.args.place + i) % 256) (omega arith))
    ∙ ap (λ (bits : List Bool). get_or bits ((c.args.place + i) % 256) false) c.self.view_is)

pub returns : goal.returns
returns c = λ i less.
    ring_over c.self.inside.words c.args.place i c.self.invariant c.requires less
    ∙ (sym (bit_in c.self.inside.words ((c.args.place + i) % 256) (omega arith))
    ∙ ap (λ (bits : List Bool). get_or bits ((c.args.place + i) % 256) false) c.self.view_is)
