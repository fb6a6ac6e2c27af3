use Rattle.std.proofs.Common.{sym, ◌∙◌}
use Rattle.dds_base.specs.declared.entity.Entity.TheVariants.{Participant}
use Rattle.dds_notices.specs.Listeners.{at_entity}
use Rattle.dds_notices.proofs.Standings.{taker-else}
use Rattle.dds_notices.proofs.slots.Slots.takes.Goals as goal

pub returns-else-takes : goal.returns-else-takes
returns-else-takes g c = record {
  taker = λ given places stands.
      let own = c.takes.ensures.takes (at_entity given c.args.entity) (at_entity places c.args.entity) (rw c.at.ensures (stands.each c.args.entity)) in
      let over = c.takes-else-takes.ensures.takes given.participant places.participant
      (rw c.at-else-takes.ensures (stands.each Participant)) in
      over ∙ taker-else places c.args.entity c.args.status.now (sym own ∙ c.if-takes.false);
}
