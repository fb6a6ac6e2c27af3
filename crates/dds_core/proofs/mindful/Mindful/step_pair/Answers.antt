use Rattle.std.proofs.Common.{subst}
use Rattle.dds_conditions.specs.Filtered.{tests_of}
use Rattle.dds_core.specs.Listening.{CoreKept, Steps}
use Rattle.dds_core.proofs.Remembered.{are_right, remembers_on}
use Rattle.dds_core.proofs.Twice.{loses_messages, loses_steps}
use Rattle.dds_core.proofs.mindful.Mindful.step_pair.Goals as goal

pub step_with-output-requires : goal.step_with-output-requires
step_with-output-requires g c = record {
  right = are_right g.L.Listener.notices g.L.Listener.capacity g.L.Listener.becomes g.F.Filter.meaning
      c.self.inside.core c.self.inside.misses c.self.invariant;
}

pub returns-clause-step : goal.returns-clause-step
returns-clause-step g c =
    subst (λ (k : CoreKept g.row.F.Denot g.row.L.Denot). Steps g.L.Listener.notices g.L.Listener.capacity g.L.Listener.becomes
    (tests_of g.F.Filter.meaning k.filtered.filters) k c.args.event c.pair_of.result.0 c.step_with-output.new.self)
    c.self.view_is
    (loses_steps g.L.Listener.notices g.L.Listener.capacity g.L.Listener.becomes
    (tests_of g.F.Filter.meaning c.self.inside.core.filtered.filters) c.self.inside.core c.args.event
    c.step_with-output.result c.pair_of.result.0 c.step_with-output.new.self c.pair_of.ensures.loses
    c.step_with-output.ensures.step)

pub returns-clause-messages : goal.returns-clause-messages
returns-clause-messages g c =
    loses_messages c.step_with-output.result c.pair_of.result.0 c.pair_of.ensures.loses
    c.step_with-output.ensures.messages

pub invariant_of-self : goal.invariant_of-self
invariant_of-self g c =
    remembers_on g.L.Listener.notices g.L.Listener.capacity g.L.Listener.becomes g.F.Filter.meaning c.self.inside.core
    c.self.inside.misses c.step_with-output.new.misses c.args.event c.step_with-output.result c.step_with-output.new.self
    c.self.invariant c.step_with-output.ensures.right c.step_with-output.ensures.step
