use Rattle.std.proofs.Common.{◌∙◌, sym}
use Rattle.dds_notices.specs.Listeners.{at_entity}
use Rattle.dds_notices.proofs.Standings.{tells_own}
use Rattle.dds_notices.proofs.slots.Slots.tell.Goals as goal

pub returns-then-takes : goal.returns-then-takes
returns-then-takes g c = record {
  told = λ given places stands.
      let own = c.takes.ensures.takes (at_entity given c.args.notice.now.entity)
      (at_entity places c.args.notice.now.entity) (rw c.at.ensures (stands.each c.args.notice.now.entity)) in
      tells_own g.L.Listener.notices g.L.Listener.capacity g.L.Listener.becomes given c.tell_at.new.self places
      c.args.notice.now (sym own ∙ c.if-takes.true) (c.tell_at.ensures given places stands);
}
