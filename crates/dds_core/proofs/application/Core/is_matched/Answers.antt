use Rattle.std.proofs.Common.{sym, subst}
use Rattle.dds_core.specs.Listening.{CoreKept}
use Rattle.dds_core.specs.Standing.{StandsFor as PeerStandsFor}
use Rattle.dds_core.proofs.application.Core.is_matched.Goals as goal

pub returns : goal.returns
returns g c = record {
  matched =
      λ roster peer s. c.is_matched.ensures.matched roster peer
      (subst (λ (k : CoreKept g.row.F.Denot g.row.L.Denot). PeerStandsFor k.filtered.peer roster peer)
      (sym c.self.view_is) s);
}
