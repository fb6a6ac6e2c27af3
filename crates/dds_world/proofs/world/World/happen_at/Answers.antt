use Rattle.dds_world.specs.Holding.{Held}
use Rattle.dds_world.proofs.Holding.{acts_of}
use Rattle.dds_world.proofs.world.World.happen_at.Goals as goal

pub returns : goal.returns
returns g c =
    let inside = c.self.inside in
    let kept : Held g.row.F.Denot g.row.L.Denot =
    record { cores = inside.peers.items; sent = inside.sent.items; unsent = inside.unsent } in
    acts_of g.L.Listener.notices g.L.Listener.capacity g.L.Listener.becomes g.F.Filter.meaning kept c.args.self.now
    c.self.view_is c.args.index c.args.event c.index_mut.result.now
    c.step-output.new.self c.step-output.result c.posted.result c.posted.new.self c.requires c.index_mut.ensures.value
    c.step-output.ensures.step c.step-output.ensures.messages c.posted.ensures.reply
    c.posted.ensures.cores c.posted.ensures.posted c.posted.ensures.unsent
    c.posted.ensures.quiet
