use Rattle.std.proofs.Common.{◌<◌, Bool, List, true, false, length, get_or, set, ap, ◌∙◌, arith}
use Rattle.rtps_sets.specs.BitLaws.{length-bits}
use Rattle.rtps_sets.specs.Bits.{bits_of}
use Rattle.rtps_sets.proofs.WordLaws.{bits_set, words_set, place_set}
use Rattle.rtps_sets.proofs.bits.Bits.insert.Goals as goal

pub invariant_of-self : goal.invariant_of-self
invariant_of-self c = words_set c.self.inside.words c.args.place c.self.invariant

pub returns-clause-bits : goal.returns-clause-bits
returns-clause-bits c =
    bits_set c.self.inside.words c.args.place c.self.invariant c.requires
    ∙ ap (λ (bits : List Bool). set bits c.args.place true) c.self.view_is

pub returns-clause-each : goal.returns-clause-each
returns-clause-each c = λ k.
    let within : c.args.place < length (bits_of c.self.inside.words) =
    omega (arith, c.requires, length-bits c.self.inside.words) in
    ap (λ (bits : List Bool). get_or bits k false)
    (bits_set c.self.inside.words c.args.place c.self.invariant c.requires)
    ∙ rw (← c.self.view_is) (place_set (bits_of c.self.inside.words) c.args.place k within)
