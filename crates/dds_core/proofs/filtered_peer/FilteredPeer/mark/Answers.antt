use Rattle.std.proofs.Common.{subst}
use Rattle.dds_core.specs.Filtering.{FilteredKept}
use Rattle.dds_core.specs.Noticing.{MarksPeer}
use Rattle.dds_core.proofs.filtered_peer.FilteredPeer.mark.Goals as goal

pub returns : goal.returns
returns g c = subst (λ (k : FilteredKept g.row.F.Denot). MarksPeer k.peer c.marks.result) c.self.view_is c.marks.ensures
