use Rattle.dds_protocol.specs.Roster.{roster_of}
use Rattle.dds_core.proofs.Filtering.{opens}
use Rattle.dds_core.proofs.filtered_peer.FilteredPeer.open.Goals as goal

pub returns-clause-opening : goal.returns-clause-opening
returns-clause-opening g c =
    opens c.in_ok-peer.peer c.new.result c.args.config.now (roster_of c.args.config.now) c.args.peer
    c.in_ok-peer.ensures.opening c.new.ensures.empty

pub returns-clause-roster : goal.returns-clause-roster
returns-clause-roster g c = λ all first good.
    opens c.in_ok-peer.peer c.new.result c.args.config.now (roster_of all) c.args.peer
    (c.in_ok-peer.ensures.roster all first good) c.new.ensures.empty
