use Rattle.std.proofs.Common.{Bool, List, ap, ◌∙◌}
use Rattle.rtps_sets.specs.NumberSet.{span}
use Rattle.rtps_sets.proofs.WordLaws.{span_all_words}
use Rattle.rtps_sets.proofs.bits.Bits.span.Goals as goal

pub returns-clause-span : goal.returns-clause-span
returns-clause-span c =
    span_all_words c.self.inside.words c.span_of.result c.span_of.ensures
    ∙ ap (λ (bits : List Bool). span bits) c.self.view_is
