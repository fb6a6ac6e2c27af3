use Rattle.std.proofs.Common.{List, subst}
use Rattle.dds_base.specs.declared.config.PeerConfig.{PeerConfig}
use Rattle.dds_core.specs.OpeningEnds.{OpensCore}
use Rattle.dds_core.proofs.OpeningLaws.{comes_in}
use Rattle.dds_core.proofs.peer.Peer.come.Goals as goal

pub returns-clause-coming : goal.returns-clause-coming
returns-clause-coming c =
    comes_in c.args.config.now c.args.number c.in_ok-open.field-0
    (subst (λ (ps : List PeerConfig). OpensCore c.args.number ps 0 c.in_ok-open.field-0)
    c.as_slice-peers.ensures.elements c.in_ok-open.ensures)
