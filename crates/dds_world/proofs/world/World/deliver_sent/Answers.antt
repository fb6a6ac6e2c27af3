use Rattle.std.proofs.Common.{ℕ, ◌+◌, sym, subst}
use Rattle.dds_machine.specs.declared.event.WorldEvent.TheVariants as world
use Rattle.dds_world.specs.HeldSteps.{StepsIn}
use Rattle.dds_world.proofs.Holding.{no_delivery_in}
use Rattle.dds_world.proofs.world.World.deliver_sent.Goals as goal

pub returns-in-Some : goal.returns-in-Some
returns-in-Some g c =
    subst (λ (n : ℕ). StepsIn g.F.Filter.meaning g.L.Listener.notices g.L.Listener.capacity g.L.Listener.becomes c.args.self.now
    (world.Deliver n (c.args.sent + 1)) c.deliver_at.result c.deliver_at.new.self) (sym c.in-Some.ensures.index.0)
    c.deliver_at.ensures

pub returns-in-None : goal.returns-in-None
returns-in-None g c =
    no_delivery_in g.F.Filter.meaning g.L.Listener.notices g.L.Listener.capacity g.L.Listener.becomes c.args.self.now c.args.peer
    c.count.result (c.args.sent + 1) c.count.ensures c.in-None.ensures.index
