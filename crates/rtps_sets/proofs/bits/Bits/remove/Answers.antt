use Rattle.std.proofs.Common.{◌<◌, Bool, List, false, length, get_or, ap, ◌∙◌, arith}
use Rattle.rtps_sets.specs.BitLaws.{length-bits}
use Rattle.rtps_sets.specs.Bits.{bits_of}
use Rattle.rtps_sets.proofs.WordLaws.{bits_clear, words_clear, place_clear}
use Rattle.rtps_sets.proofs.bits.Bits.remove.Goals as goal

pub invariant_of-self : goal.invariant_of-self
invariant_of-self c = words_clear c.self.inside.words c.args.place c.self.invariant

pub returns : goal.returns
returns c =
    let within : c.args.place < length (bits_of c.self.inside.words) =
    omega (arith, c.requires, length-bits c.self.inside.words) in
    record {
      each = λ k.
          ap (λ (bits : List Bool). get_or bits k false)
          (bits_clear c.self.inside.words c.args.place c.self.invariant c.requires)
          ∙ rw (← c.self.view_is) (place_clear (bits_of c.self.inside.words) c.args.place k within);
    }
