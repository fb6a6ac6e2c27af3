use Rattle.std.proofs.Common.{sym, subst}
use Rattle.dds_core.specs.Filtering.{FilteredKept}
use Rattle.dds_core.specs.Standing.{StandsFor as PeerStandsFor}
use Rattle.dds_core.proofs.filtered_peer.FilteredPeer.observe.Goals as goal

pub returns : goal.returns
returns g c = record {
  observes =
      λ roster peer s. c.observe.ensures.observes roster peer
      (subst (λ (k : FilteredKept g.row.F.Denot). PeerStandsFor k.peer roster peer) (sym c.self.view_is) s);
}
