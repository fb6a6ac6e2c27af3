use Rattle.std.proofs.Common.{subst}
use Rattle.dds_conditions.specs.Filtered.{tests_of}
use Rattle.dds_protocol.specs.declared.event.Event.TheVariants as event
use Rattle.dds_core.specs.Listening.{CoreKept, Steps}
use Rattle.dds_core.proofs.Remembered.{are_right, remembers_on}
use Rattle.dds_core.proofs.mindful.Mindful.deliver.Goals as goal

pub happen-requires : goal.happen-requires
happen-requires g c = record {
  right = are_right g.L.Listener.notices g.L.Listener.capacity g.L.Listener.becomes g.F.Filter.meaning
      c.self.inside.core c.self.inside.misses c.self.invariant;
}

pub returns-clause-step : goal.returns-clause-step
returns-clause-step g c =
    subst (λ (k : CoreKept g.row.F.Denot g.row.L.Denot). Steps g.L.Listener.notices g.L.Listener.capacity g.L.Listener.becomes
    (tests_of g.F.Filter.meaning k.filtered.filters) k (event.Deliver c.args.packet.now) c.happen.result c.happen.new.self)
    c.self.view_is c.happen.ensures.step

pub invariant_of-self : goal.invariant_of-self
invariant_of-self g c =
    remembers_on g.L.Listener.notices g.L.Listener.capacity g.L.Listener.becomes g.F.Filter.meaning c.self.inside.core
    c.self.inside.misses c.happen.new.misses (event.Deliver c.args.packet.now) c.happen.result c.happen.new.self
    c.self.invariant c.happen.ensures.right c.happen.ensures.step
