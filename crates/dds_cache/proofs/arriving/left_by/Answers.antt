use Rattle.std.proofs.Common.{◌≡◌, ◌+◌, ◌∷◌, List, length, true, sym, ◌∙◌, subst, arith, false}
use Rattle.dds_base.specs.declared.happening.Happening.{Happening}
use Rattle.dds_base.specs.declared.happening.Happening.TheVariants.{Came}
use Rattle.dds_cache.specs.Arriving.{TakesChange}
use Rattle.dds_cache.specs.declared.kept.Kept.{Kept}
use Rattle.dds_cache.specs.Finding.{IsSmall}
use Rattle.dds_cache.proofs.ArrivingLaws.{IsLeft, left-is}
use Rattle.dds_cache.proofs.PresenceLaws.{unknown-absent}
use Rattle.dds_cache.proofs.KeptLaws.{live-at}
use Rattle.dds_cache.proofs.arriving.left_by.Goals as goal
use Rattle.dds_cache.proofs.arriving.left_by.Goals.{After-is_live}

left : (c : After-is_live) (h : List Happening)
    → TakesChange c.args.qos.now c.args.instances.now c.args.arrival c.args.is_write h
    → IsLeft c.args.qos.now c.args.arrival h c.kept_of-kept.result
left c h takes =
    let q = c.args.qos.now in
    let g : List Happening = Came c.args.arrival ∷ h in
    let more : length g ≡ length h + 1 = omega arith in
    left-is q c.args.arrival h c.in-Some.known c.happened.result c.args.is_write c.kept_of-kept.result c.kept_of-kept.ensures
    (c.happened.ensures.happened q g takes.stands ∙ more) (c.in-Some.ensures.known q g takes.stands)
    (c.in-Some.ensures.key q g takes.stands) takes.valid takes.fresh

pub returns-in-None-clause-left : goal.returns-in-None-clause-left
returns-in-None-clause-left c = λ h takes.
    unknown-absent c.args.qos.now (Came c.args.arrival) h c.args.arrival.change.key
    (c.in-None.ensures.key c.args.qos.now (Came c.args.arrival ∷ h) takes.stands)

pub returns-then-is_live-clause-left : goal.returns-then-is_live-clause-left
returns-then-is_live-clause-left c = λ h takes.
    let q = c.args.qos.now in
    let g : List Happening = Came c.args.arrival ∷ h in
    let is = left ((goal.at.returns-then-is_live-clause-left c).After-is_live) h takes in
    record {
      sample_is = is.sample;
      kept = is.kept;
      present =
          live-at q g c.args.arrival.change.key (length h + 1) c.in-Some.known c.kept_of-kept.result true
          (c.in-Some.ensures.known q g takes.stands) (c.in-Some.ensures.key q g takes.stands) is.sample is.kept
          (sym c.is_live.ensures ∙ c.if-is_live.true);
    }

pub returns-else-is_live-clause-left : goal.returns-else-is_live-clause-left
returns-else-is_live-clause-left c = λ h takes.
    let q = c.args.qos.now in
    let g : List Happening = Came c.args.arrival ∷ h in
    let is = left ((goal.at.returns-else-is_live-clause-left c).After-is_live) h takes in
    live-at q g c.args.arrival.change.key (length h + 1) c.in-Some.known c.kept_of-kept.result false
    (c.in-Some.ensures.known q g takes.stands) (c.in-Some.ensures.key q g takes.stands) is.sample is.kept
    (sym c.is_live.ensures ∙ c.if-is_live.false)

pub returns-then-is_live-clause-small : goal.returns-then-is_live-clause-small
returns-then-is_live-clause-small c =
    subst (λ (k : Kept). IsSmall k) (sym c.kept_of-kept.ensures) c.in-Some.ensures.small
