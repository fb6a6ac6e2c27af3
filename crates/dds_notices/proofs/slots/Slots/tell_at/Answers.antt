use Rattle.dds_notices.proofs.Standings.{entity_tells}
use Rattle.dds_notices.proofs.slots.Slots.tell_at.Goals as goal

pub returns : goal.returns
returns g c =
    entity_tells g.L.Listener.notices g.L.Listener.capacity g.L.Listener.becomes c.args.self.now c.put-slot.new.self
    c.put.new.self c.args.entity _ _ _ c.args.notice.now c.requires c.put-slot.ensures.old c.put-slot.ensures.new
    c.tell.ensures c.put.ensures.new
