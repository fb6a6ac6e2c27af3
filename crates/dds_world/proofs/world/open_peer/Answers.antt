use Rattle.dds_protocol.specs.Roster.{Roster}
use Rattle.dds_core.specs.Listening.{CoreKept, StandsFor, no_listeners}
use Rattle.dds_core.specs.Opening.{opening_peer}
use Rattle.dds_core.specs.Ruling.{IsSound}
use Rattle.std.proofs.Common.{◌+◌}
use Rattle.dds_world.proofs.Opened.{opening_so, taken_so, refused_so}
use Rattle.dds_world.proofs.world.open_peer.Goals as goal

pub returns-clause-opening : goal.returns-clause-opening
returns-clause-opening g c =
    opening_so
    (λ (core : CoreKept g.row.F.Denot g.row.L.Denot) (roster : Roster). StandsFor g.L.Listener.notices
    g.L.Listener.capacity g.L.Listener.becomes
    (no_listeners (opening_peer c.args.config.now (c.args.index + 1)).part) core roster
    (opening_peer c.args.config.now (c.args.index + 1)))
    (λ (core : CoreKept g.row.F.Denot g.row.L.Denot) (roster : Roster).
    IsSound roster (opening_peer c.args.config.now (c.args.index + 1)))
    c.args.config.now c.open.result c.open.ensures.roster

pub returns-clause-taken : goal.returns-clause-taken
returns-clause-taken g c =
    taken_so c.args.config.now.peers c.args.index c.open.result c.requires.within c.open.ensures.taken

pub returns-clause-refused : goal.returns-clause-refused
returns-clause-refused g c =
    refused_so c.args.config.now.peers c.args.index c.open.result c.requires.within c.open.ensures.refused
