use Rattle.dds_core.proofs.Newcomers.{comes_filtered}
use Rattle.dds_core.proofs.filtered_peer.FilteredPeer.come.Goals as goal

pub returns-clause-coming : goal.returns-clause-coming
returns-clause-coming g c =
    comes_filtered c.in_ok-peer.peer c.new.result c.args.config.now c.args.number c.in_ok-peer.ensures.coming
    c.new.ensures.empty
