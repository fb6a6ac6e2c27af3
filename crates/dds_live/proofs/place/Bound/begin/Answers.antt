use Rattle.std.proofs.Common.{refl}
use Rattle.dds_live.proofs.Laws.{begun}
use Rattle.dds_live.proofs.place.Bound.begin.Goals as goal

pub returns-in-Ok : goal.returns-in-Ok
returns-in-Ok c = record {
  begun = begun c.args.prefix c.args.self c.args.ends.items c.at.result _ c.in-Ok.participant c.in-Ok.ensures.opened
      (rw (← c.self.view_is) c.at.ensures) (rw (← c.self.view_is) c.participant_at.ensures.announced)
      (rw (← c.self.view_is) refl) (rw (← c.self.view_is) refl) refl;
}
