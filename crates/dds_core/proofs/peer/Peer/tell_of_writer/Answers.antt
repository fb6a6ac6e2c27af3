use Rattle.std.proofs.Common.{◌-◌, Option, sym, subst}
use Rattle.dds_notices.specs.declared.notice.Status.{Status}
use Rattle.dds_machine.specs.Noticing.{told}
use Rattle.dds_base.specs.declared.entity.Entity.TheVariants as entity
use Rattle.dds_core.specs.Kept.{PeerKept}
use Rattle.dds_core.specs.Noticing.{Tells}
use Rattle.dds_core.proofs.Notified.{end_found, tells_nobody}
use Rattle.dds_core.proofs.WriterNotified.{tells_writer}
use Rattle.dds_core.proofs.peer.Peer.tell_of_writer.Goals as goal

pub returns-then-takes-clause-told : goal.returns-then-takes-clause-told
returns-then-takes-clause-told g c =
    let here =
    end_found (λ (k : PeerKept). k.writers) _ c.args.self.now c.args.number c.from.result c.index_mut.result.now
    c.self.view_is c.requires.within.0 c.requires.within.1 c.from.ensures c.index_mut.ensures.value in
    tells_writer g.L.Listener.notices g.L.Listener.capacity g.L.Listener.becomes c.args.raised c.in-Some.status _ c.args.self.now
    c.args.slots.now c.args.number (c.from.result - 1) c.index_mut.result.now c.see.new.self c.tell.new.self
    c.in-Some.is c.self.view_is here.0 here.2 c.see.ensures c.if-takes.ensures.taker c.tell.ensures.told

pub returns-else-takes-clause-told : goal.returns-else-takes-clause-told
returns-else-takes-clause-told g c =
    subst (λ (o : Option Status). Tells g.L.Listener.notices g.L.Listener.capacity g.L.Listener.becomes
    (λ part. told part (entity.Writer c.args.number) o) c.args.self.now c.args.slots.now c.args.self.now
    c.args.slots.now)
    (sym c.in-Some.is)
    (tells_nobody g.L.Listener.notices g.L.Listener.capacity g.L.Listener.becomes
    (entity.Writer c.args.number) c.in-Some.status c.args.self.now c.args.slots.now c.if-takes.ensures.taker)
