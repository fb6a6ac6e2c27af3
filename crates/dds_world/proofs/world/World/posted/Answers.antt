use Rattle.std.proofs.Common.{length, ap, arith}
use Rattle.dds_world.specs.Holding.{Held}
use Rattle.dds_world.proofs.world.World.posted.Goals as goal

pub returns-clause-unsent : goal.returns-clause-unsent
returns-clause-unsent g c = λ given.
    let sent = ap (λ (k : Held g.row.F.Denot g.row.L.Denot). length k.sent) c.self.view_is in
    let unsent = ap (λ (k : Held g.row.F.Denot g.row.L.Denot). k.unsent) c.self.view_is in
    let counted = c.post-lost.ensures.counted in
    let first = c.saturating_add.ensures in
    let all = c.saturating_add-self-inside.ensures in
    (c.post-lost.result, omega (arith, sent, counted), omega (arith, unsent, first, all))
