use Rattle.std.proofs.Common.{List, ap, sym, ◌∙◌}
use Rattle.std.specs.Prelude.{nat_le, filter}
use Rattle.dds_history.specs.Held.{HeldChange}
use Rattle.dds_history.proofs.Counting.{front_goes, front_stays}
use Rattle.dds_history.proofs.held.Kept.let_go.Goals as goal

pub loop-self-preserved : goal.loop-self-preserved
loop-self-preserved c =
    let so_far = c.loop-self.invariant in
    let now = c.loop-self.self in (
      c.drop_first.ensures.policy ∙ so_far.0,
      λ last h.
          let held = so_far.1 last h in
          let gone = c.drop_first.ensures.after last held.0 (sym c.goes_first.ensures ∙ c.loop-self-test.true) in (
            gone.holds,
            ap (λ (hs : List HeldChange). filter (λ x. nat_le c.args.number x.number) hs) gone.shown
                ∙ (front_goes c.args.number now.policy now.keys.entries now.entries.items
                (sym c.goes_first.ensures ∙ c.loop-self-test.true)
                ∙ held.1),
          ),
    )

pub returns-clause-rest : goal.returns-clause-rest
returns-clause-rest c = λ last h.
    let now = c.loop-self.self in
    let held = c.loop-self.invariant.1 last h in (
      held.0,
      sym (front_stays c.args.number now.policy now.keys.entries now.entries.items
          (sym c.goes_first.ensures ∙ c.loop-self-test.false) held.0.rises)
          ∙ held.1,
    )
