use Rattle.std.proofs.Common.{ℕ, List, sym, subst, arith}
use Rattle.dds_history.specs.Entries.{parts, state}
use Rattle.dds_history.specs.Readers.{joined}
use Rattle.dds_history.specs.Standing.{Held, StandsFor}
use Rattle.dds_history.proofs.Letting.{stands_as}
use Rattle.dds_history.proofs.Parting.{stands-joined}
use Rattle.dds_history.proofs.history.History.join.Goals as goal

pub returns-clause-ok : goal.returns-clause-ok
returns-clause-ok c = λ w s.
    let now : Held = record {
      policy = c.self.inside.kept.policy;
      max_samples = c.self.inside.max_samples;
      last = c.self.inside.last;
      acknowledged = c.self.inside.acknowledged.items;
      kept = parts (state c.self.inside.kept);
    } in
    let here = stands_as c.args.self.now now w (sym c.self.view_is) s in
    subst (λ (a : List ℕ). StandsFor (record now { acknowledged = a }) (joined w)) (sym c.in_ok-push.ensures.items)
    (stands-joined now w c.saturating_add.result here (omega (arith, c.saturating_add.ensures, here.few)))
