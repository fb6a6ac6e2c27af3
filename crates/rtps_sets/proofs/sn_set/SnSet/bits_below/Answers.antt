use Rattle.std.proofs.Common.{false, ◌&&◌, ltb, get_or, ap, ◌∙◌}
use Rattle.rtps_sets.specs.NumberSet.{NumberSet}
use Rattle.rtps_sets.proofs.MemberLaws.{AreBelow, within_below, has_last_below, has_none_below}
use Rattle.rtps_sets.proofs.sn_set.SnSet.bits_below.Goals as goal

below : (c : goal.After-span) → AreBelow c.args.self.now c.args.place c.below.result c.span.result
below c = record {
  each = λ k lt. c.below.ensures.each k lt
      ∙ ap (λ (s : NumberSet). ltb k c.args.place && get_or s.members k false) c.self.view_is;
  span = c.span.ensures.span;
  few = c.span.ensures.within;
  within = c.requires.place;
}

pub returns-clause-within : goal.returns-clause-within
returns-clause-within c = within_below _ _ _ _ (below c)

pub returns-clause-last : goal.returns-clause-last
returns-clause-last c = has_last_below c.args.self.now c.args.place c.below.result c.span.result (below c)

pub returns-clause-past : goal.returns-clause-past
returns-clause-past c =
    λ n. has_none_below c.args.self.now c.args.place c.below.result c.span.result n (below c)
