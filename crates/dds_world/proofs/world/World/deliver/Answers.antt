use Rattle.std.proofs.Common.{ℕ, sym, subst}
use Rattle.dds_machine.specs.declared.event.WorldEvent.TheVariants as world
use Rattle.dds_world.specs.HeldSteps.{StepsIn}
use Rattle.dds_world.proofs.Holding.{no_packet_in}
use Rattle.dds_world.proofs.world.World.deliver.Goals as goal

pub returns-in-Some : goal.returns-in-Some
returns-in-Some g c =
    subst (λ (n : ℕ). StepsIn g.F.Filter.meaning g.L.Listener.notices g.L.Listener.capacity g.L.Listener.becomes c.args.self.now
    (world.Deliver c.args.peer n) c.deliver_sent.result c.deliver_sent.new.self) (sym c.in-Some.ensures.0)
    c.deliver_sent.ensures

pub returns-in-None : goal.returns-in-None
returns-in-None g c =
    no_packet_in g.F.Filter.meaning g.L.Listener.notices g.L.Listener.capacity g.L.Listener.becomes c.args.self.now c.args.peer c.sent.result
    c.args.packet c.sent.ensures.sent c.in-None.ensures
