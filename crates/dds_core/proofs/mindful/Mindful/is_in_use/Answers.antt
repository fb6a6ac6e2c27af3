use Rattle.std.proofs.Common.{sym, subst}
use Rattle.dds_core.specs.Listening.{CoreKept}
use Rattle.dds_core.specs.Standing.{StandsFor as PeerStandsFor}
use Rattle.dds_core.proofs.mindful.Mindful.is_in_use.Goals as goal

pub returns : goal.returns
returns g c = record {
  used = λ roster peer s. c.is_in_use.ensures.used roster peer
      (subst (λ (k : CoreKept g.row.F.Denot g.row.L.Denot). PeerStandsFor k.filtered.peer roster peer)
      (sym c.self.view_is) s);
}
