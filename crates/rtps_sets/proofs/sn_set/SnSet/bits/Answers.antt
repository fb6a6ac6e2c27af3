use Rattle.std.proofs.Common.{◌∙◌, ap}
use Rattle.rtps_sets.specs.NumberSet.{NumberSet, span}
use Rattle.rtps_sets.proofs.MemberLaws.{has_last, has_none_past}
use Rattle.rtps_sets.proofs.sn_set.SnSet.bits.Goals as goal

pub returns-clause-last : goal.returns-clause-last
returns-clause-last c =
    has_last c.args.self.now c.span.result
    (c.span.ensures.span ∙ ap (λ (s : NumberSet). span s.members) c.self.view_is)

pub returns-clause-past : goal.returns-clause-past
returns-clause-past c =
    λ n. has_none_past c.args.self.now c.span.result n
    (c.span.ensures.span ∙ ap (λ (s : NumberSet). span s.members) c.self.view_is)
