use Rattle.std.proofs.Common.{ℕ, Bool, List, false, length, get_or, eqb, sym, ap, ◌∙◌, ◌/◌, ◌%◌}
use Rattle.std.proofs.lemmas.Nat.Bits.{shr_and_one}
use Rattle.rtps_sets.specs.BitLaws.{bit_in, length-bits}
use Rattle.rtps_sets.proofs.bits.Bits.has.Goals as goal

pub returns-clause-has : goal.returns-clause-has
returns-clause-has c =
    ap (λ (n : ℕ). eqb n 1) (shr_and_one (get_or c.self.inside.words (c.args.place / 64) 0) (c.args.place % 64))
    ∙ (sym (bit_in c.self.inside.words c.args.place c.requires)
    ∙ ap (λ (bits : List Bool). get_or bits c.args.place false) c.self.view_is)

pub returns-clause-count : goal.returns-clause-count
returns-clause-count c =
    sym (ap (λ (bits : List Bool). length bits) c.self.view_is) ∙ length-bits c.self.inside.words
