use Rattle.std.proofs.Common.{ℕ, List, min, ap, sym, ◌∙◌, subst, arith}
use Rattle.std.specs.List.{reduce}
use Rattle.std.specs.Option.{unwrap_or}
use Rattle.dds_history.specs.Entries.{parts, state}
use Rattle.dds_history.specs.Readers.{left}
use Rattle.dds_history.specs.Standing.{Held, StandsFor}
use Rattle.dds_history.proofs.Letting.{stands_as}
use Rattle.dds_history.proofs.Parting.{stands-left}
use Rattle.dds_history.proofs.history.History.leave.Goals as goal

pub returns-clause-stands : goal.returns-clause-stands
returns-clause-stands c = λ w s.
    let now : Held = record {
      policy = c.self.inside.kept.policy;
      max_samples = c.self.inside.max_samples;
      last = c.self.inside.last;
      acknowledged = c.self.inside.acknowledged.items;
      kept = parts (state c.self.inside.kept);
    } in
    let here = stands_as c.args.self.now now w (sym c.self.view_is) s in
    let next : ℕ = c.saturating_add-next.result in
    let rest = c.acknowledge.ensures.rest now.last here.holds in
    subst (λ (a : List ℕ). StandsFor (record now {
      policy = c.acknowledge.new.self.policy;
      kept = parts (state c.acknowledge.new.self);
      acknowledged = a;
    }) (left w c.args.reader)) (sym c.remove.ensures.items)
    (stands-left now w c.args.reader next c.first_awaited.result (state c.acknowledge.new.self) here
    (omega (arith, c.saturating_add-next.ensures, here.few))
    (c.first_awaited.ensures
    ∙ ap (λ (a : List ℕ). unwrap_or (reduce min a) next) (c.deref.ensures.value ∙ c.remove.ensures.items))
    c.acknowledge.ensures.policy rest.1 rest.0)
