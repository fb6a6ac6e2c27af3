use Rattle.std.proofs.Common.{inl, inr, length, refl, ◌∙◌}
use Rattle.dds_domain.proofs.sharing.Sharing.meet_due.Goals as goal
use Rattle.dds_domain.proofs.sharing.Sharing.meet_due.Goals.{in-Err, in-Ok}

pub returns : goal.returns
returns c = elim c.match-meet_all.branch [
  | in-Ok w ↦ record {
    count = length c.self.inside.exchange.due;
    given = c.meet_all.new.turn;
    met = rw (← c.self.view_is) w.in-Ok.ensures.all;
    all = inl (rw (← c.self.view_is) refl, w.turn-is);
    rest = rw (← c.self.view_is) refl;
  }
  | in-Err w ↦ record {
    count = w.in-Err.ensures.some.0;
    given = c.meet_all.new.turn;
    met = rw (← c.self.view_is) w.in-Err.ensures.some.1;
    all = inr (w.turn-is ∙ w.lack.ensures);
    rest = rw (← c.self.view_is) refl;
  }
]
