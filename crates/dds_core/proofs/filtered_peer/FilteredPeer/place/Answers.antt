use Rattle.std.proofs.Common.{sym, subst}
use Rattle.dds_core.specs.Filtering.{FilteredKept}
use Rattle.dds_core.specs.Standing.{StandsFor as PeerStandsFor}
use Rattle.dds_core.proofs.filtered_peer.FilteredPeer.place.Goals as goal

pub returns : goal.returns
returns g c = record {
  place =
      λ roster peer s. c.place.ensures.place roster peer
      (subst (λ (k : FilteredKept g.row.F.Denot). PeerStandsFor k.peer roster peer) (sym c.self.view_is) s);
}
