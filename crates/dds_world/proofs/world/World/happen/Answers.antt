use Rattle.std.proofs.Common.{refl}
use Rattle.dds_machine.specs.declared.event.WorldEvent.TheVariants as world
use Rattle.dds_world.proofs.Holding.{steps_as}
use Rattle.dds_world.proofs.world.World.happen.Goals as goal

pub returns-in-Call : goal.returns-in-Call
returns-in-Call g c = steps_as c.in-Call.is (c.happen_to.ensures (world.Call c.in-Call.peer c.in-Call.call) (refl, refl))

pub returns-in-Tick : goal.returns-in-Tick
returns-in-Tick g c = steps_as c.in-Tick.is (c.happen_to-in-Tick.ensures (world.Tick c.in-Tick.peer c.in-Tick.now) (refl, refl))

pub returns-in-Deliver : goal.returns-in-Deliver
returns-in-Deliver g c = steps_as c.in-Deliver.is c.deliver.ensures

pub returns-in-Resume : goal.returns-in-Resume
returns-in-Resume g c =
    steps_as c.in-Resume.is (c.happen_to-in-Resume.ensures (world.Resume c.in-Resume.peer c.in-Resume.reader) (refl, refl))
