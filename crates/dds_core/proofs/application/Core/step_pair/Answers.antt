use Rattle.dds_conditions.specs.Filtered.{tests_of}
use Rattle.dds_core.proofs.Remembered.{right_of_none}
use Rattle.dds_core.proofs.Twice.{loses_messages, loses_steps}
use Rattle.dds_core.proofs.application.Core.step_pair.Goals as goal

pub returns-clause-step : goal.returns-clause-step
returns-clause-step g c =
    loses_steps g.L.Listener.notices g.L.Listener.capacity g.L.Listener.becomes
    (tests_of g.F.Filter.meaning c.args.self.now.filtered.filters) c.args.self.now c.args.event
    c.step_with-output.result c.pair_of.result.0 c.step_with-output.new.self c.pair_of.ensures.loses
    c.step_with-output.ensures.step

pub returns-clause-messages : goal.returns-clause-messages
returns-clause-messages g c =
    loses_messages c.step_with-output.result c.pair_of.result.0 c.pair_of.ensures.loses
    c.step_with-output.ensures.messages

pub step_with-output-requires : goal.step_with-output-requires
step_with-output-requires g c = record { right = right_of_none _ _ c.nowhere-misses.result c.nowhere-misses.ensures }
