use Rattle.std.proofs.Common.{rules}
use Rattle.dds_notices.proofs.Standings.{sets}
use Rattle.dds_notices.proofs.slots.Slots.set.Goals as goal

pub returns-clause-ok : goal.returns-clause-ok
returns-clause-ok g c =
    rw (c.listener_of.ensures, c.put.ensures.old, c.put.ensures.new, c.slot_of.ensures)
    (sets g.L.Listener.notices g.L.Listener.capacity g.L.Listener.becomes c.args.self.now c.args.entity c.args.mask c.args.listener
    (search rules) (search rules))
