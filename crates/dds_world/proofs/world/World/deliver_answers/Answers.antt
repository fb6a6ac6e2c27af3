use Rattle.std.proofs.Common.{◌≡◌, ℕ, ◌+◌, ◌-◌, min, List, [], ◌∷◌, ◌++◌, map, length, refl, ap, ◌∙◌, subst, append_assoc, length-append, arith}
use Rattle.dds_base.specs.Kept.{numbers_from}
use Rattle.dds_machine.specs.declared.event.WorldEvent.TheVariants as world
use Rattle.dds_world.specs.declared.round.RoundReply.{RoundReply}
use Rattle.dds_world.specs.Holding.{kept_of, tests_in}
use Rattle.dds_world.specs.Round.{AreSteps, IsStep, answers_at}
use Rattle.dds_world.proofs.Holding.{same_tests}
use Rattle.dds_world.proofs.Rounds.{answered_more}
use Rattle.dds_world.proofs.world.World.deliver_answers.Goals as goal

pub loop-index-preserved : goal.loop-index-preserved
loop-index-preserved g c =
    let i = c.loop-index.invariant in
    let a = c.add_step.ensures.step in
    let first = c.args.self.now in
    let more = ap (λ (rs : List RoundReply). length rs) a.1 in
    let total = length-append c.loop-index.replies.items (a.0 ∷ []) in
    let so_far = i.1 in
    let room = i.2 in
    let kept = c.add_step.ensures.capacity in (
      λ given.
          let so = i.0 given in
          let old = kept_of g.L.Listener.notices g.L.Listener.capacity g.L.Listener.becomes given first in
          let mid = kept_of g.L.Listener.notices g.L.Listener.capacity g.L.Listener.becomes given c.loop-index.self in
          let new = kept_of g.L.Listener.notices g.L.Listener.capacity g.L.Listener.becomes given c.add_step.new.self in (
            so.0 ++ a.0 ∷ [],
            a.1
                ∙ (ap (λ (rs : List RoundReply). rs ++ a.0 ∷ []) so.1
                ∙ append_assoc c.args.replies.now.items so.0 (a.0 ∷ [])),
            answered_more old c.args.peer c.args.from c.loop-index.index _ _ so.0 mid a.0 new refl refl so.2
                (same_tests g.F.Filter.meaning first c.loop-index.self
                (λ tests. IsStep tests mid (world.Deliver c.args.peer (c.args.from + c.loop-index.index + 1)) a.0 new) i.3
                (a.2 given)),
          ),
      omega (arith, more, total, so_far),
      omega (arith, room, kept),
      c.add_step.ensures.filters ∙ i.3,
    )

pub returns-clause-adds : goal.returns-clause-adds
returns-clause-adds g c = λ given.
    let i = c.loop-index.invariant.0 given in
    let first = c.args.self.now in
    let all : c.loop-index.index ≡ min 256 (length first.sent - c.args.from) = omega arith in (
      answers_at c.args.peer c.args.from (length first.sent),
      i.0,
      i.1,
      (
        refl,
        subst (λ (n : ℕ). AreSteps (tests_in g.F.Filter.meaning first)
            (kept_of g.L.Listener.notices g.L.Listener.capacity g.L.Listener.becomes given first)
            (map (λ k. world.Deliver c.args.peer k) (numbers_from (c.args.from + 1) n)) i.0
            (kept_of g.L.Listener.notices g.L.Listener.capacity g.L.Listener.becomes given c.loop-index.self)) all i.2,
      ),
    )
