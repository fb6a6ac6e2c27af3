use Rattle.std.specs.Prelude.{is_ok}
use Rattle.dds_world.proofs.WorldSteps.{posts_more}
use Rattle.dds_world.proofs.world.post.Goals as goal

pub loop-packet-preserved : goal.loop-packet-preserved
loop-packet-preserved c =
    posts_more c.args.sent.now.items c.loop-packet.yielded c.loop-packet.sent.items c.push.new.self.items
    c.in-Some.packet (is_ok c.push.result) c.loop-packet.invariant c.push.ensures.items

pub loop-packet-preserved-in-Some : goal.loop-packet-preserved-in-Some
loop-packet-preserved-in-Some c =
    posts_more c.args.sent.now.items c.loop-packet.yielded c.loop-packet.sent.items c.push.new.self.items
    c.in-Some.packet (is_ok c.push.result) c.loop-packet.invariant c.push.ensures.items
