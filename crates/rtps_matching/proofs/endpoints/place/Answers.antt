use Rattle.std.proofs.Common.{◌∙◌, ◌<◌, List, ap, length, subst, sym}
use Rattle.std.specs.List.{position}
use Rattle.rtps_matching.specs.declared.far.Far.{Far}
use Rattle.rtps_matching.specs.Matches.{is_far}
use Rattle.rtps_matching.proofs.Placing.{placed_at, placed_last}
use Rattle.rtps_matching.proofs.endpoints.place.Goals as goal

pub returns-in-Some-clause-ok : goal.returns-in-Some-clause-ok
returns-in-Some-clause-ok c =
    placed_at c.args.new c.args.far.now.items c.in-Some.at
    (ap (λ (fs : List Far). position (is_far c.args.new.guid) fs) (sym c.deref.ensures.value)
    ∙ (sym c.place_of.ensures.place ∙ c.in-Some.is))
    (subst (λ (fs : List Far). c.in-Some.at < length fs) c.deref.ensures.value c.in-Some.ensures.within)

pub returns-in_ok-push-in-None-clause-ok : goal.returns-in_ok-push-in-None-clause-ok
returns-in_ok-push-in-None-clause-ok c =
    c.in_ok-push-in-None.ensures.items
    ∙ placed_last c.args.new c.args.far.now.items
    (ap (λ (fs : List Far). position (is_far c.args.new.guid) fs) (sym c.deref.ensures.value)
    ∙ (sym c.place_of.ensures.place ∙ c.in-None.is))
