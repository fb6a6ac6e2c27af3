use Rattle.std.proofs.Common.{subst}
use Rattle.dds_conditions.specs.Filtered.{tests_of}
use Rattle.dds_core.specs.Listening.{CoreKept, Steps}
use Rattle.dds_core.proofs.Remembered.{are_right, remembers_on}
use Rattle.dds_core.proofs.mindful.Mindful.step.Goals as goal

pub step_with-requires : goal.step_with-requires
step_with-requires g c = record {
  right = are_right g.L.Listener.notices g.L.Listener.capacity g.L.Listener.becomes g.F.Filter.meaning
      c.self.inside.core c.self.inside.misses c.self.invariant;
}

pub returns-clause-step : goal.returns-clause-step
returns-clause-step g c =
    subst (λ (k : CoreKept g.row.F.Denot g.row.L.Denot). Steps g.L.Listener.notices g.L.Listener.capacity g.L.Listener.becomes
    (tests_of g.F.Filter.meaning k.filtered.filters) k c.args.event c.step_with.result c.step_with.new.self)
    c.self.view_is c.step_with.ensures.step

pub invariant_of-self : goal.invariant_of-self
invariant_of-self g c =
    remembers_on g.L.Listener.notices g.L.Listener.capacity g.L.Listener.becomes g.F.Filter.meaning c.self.inside.core
    c.self.inside.misses c.step_with.new.misses c.args.event c.step_with.result c.step_with.new.self
    c.self.invariant c.step_with.ensures.right c.step_with.ensures.step
