use Rattle.std.proofs.Common.{Bool, List, ap, ◌∙◌}
use Rattle.rtps_sets.specs.NumberSet.{has_number}
use Rattle.rtps_sets.proofs.MemberLaws.{empty_has_none}
use Rattle.rtps_sets.proofs.sn_set.SnSet.new.Goals as goal

pub returns-clause-none : goal.returns-clause-none
returns-clause-none c =
    λ n. ap (λ (bits : List Bool). has_number (record { base = c.number.result; members = bits }) n) c.none.ensures
    ∙ empty_has_none c.number.result n
