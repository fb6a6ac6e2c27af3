use Rattle.std.proofs.Common.{Bool, List, false, get_or, ap, ◌∙◌}
use Rattle.rtps_sets.proofs.MarkLaws.{no_marks}
use Rattle.rtps_sets.proofs.MemberLaws.{none_of}
use Rattle.rtps_sets.proofs.window.Window.open.Goals as goal

pub returns-clause-none : goal.returns-clause-none
returns-clause-none c = λ n.
    no_marks n c.none.result c.none-2.result 1
    (λ k. ap (λ (bits : List Bool). get_or bits k false) c.none.ensures ∙ none_of 256 k)
    (λ k. ap (λ (bits : List Bool). get_or bits k false) c.none-2.ensures ∙ none_of 256 k)
