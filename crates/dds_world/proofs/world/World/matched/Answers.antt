use Rattle.dds_core.specs.Listening.{CoreKept}
use Rattle.dds_world.specs.Holding.{kept_of}
use Rattle.dds_world.proofs.Holding.{core_kept}
use Rattle.dds_world.proofs.Rounds.{no_pair_matched, pair_matched}
use Rattle.dds_world.proofs.world.World.matched.Goals as goal

pub returns-in-Some-pair-clause-known : goal.returns-in-Some-pair-clause-known
returns-in-Some-pair-clause-known g c = λ given.
    let i = c.in-Some.index in
    let core : CoreKept g.row.F.Denot g.row.L.Denot = c.index-core.result.now in
    let at =
    core_kept g.L.Listener.notices g.L.Listener.capacity g.L.Listener.becomes given _ c.args.self.now i c.count.result core c.self.view_is
    c.index-core.ensures c.count.ensures c.in-Some.ensures.index.1 in
    pair_matched (kept_of g.L.Listener.notices g.L.Listener.capacity g.L.Listener.becomes given c.args.self.now) i core.filtered.peer
    c.args.writer c.args.reader c.in-Some-pair.pair c.moment.result c.in-Some.ensures.index.0 at
    c.in-Some-pair.ensures.pair c.moment.ensures.moment

pub returns-in-None-clause-known : goal.returns-in-None-clause-known
returns-in-None-clause-known g c = λ given.
    let i = c.in-Some.index in
    let core : CoreKept g.row.F.Denot g.row.L.Denot = c.index-core.result.now in
    let at =
    core_kept g.L.Listener.notices g.L.Listener.capacity g.L.Listener.becomes given _ c.args.self.now i c.count.result core c.self.view_is
    c.index-core.ensures c.count.ensures c.in-Some.ensures.index.1 in
    no_pair_matched (kept_of g.L.Listener.notices g.L.Listener.capacity g.L.Listener.becomes given c.args.self.now) i core.filtered.peer
    c.args.writer c.args.reader c.in-Some.ensures.index.0 at c.in-None.ensures.pair
