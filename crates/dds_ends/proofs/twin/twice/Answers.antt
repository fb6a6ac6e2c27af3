use Rattle.dds_ends.proofs.PacketsLeft.{leaves_more}
use Rattle.dds_ends.proofs.twin.twice.Goals as goal

pub loop-packet-preserved : goal.loop-packet-preserved
loop-packet-preserved c = record {
  leaves =
      leaves_more c.loop-packet.yielded c.loop-packet.first.items c.push_both.new.first.items c.in-Some.packet
      c.push_both.result c.loop-packet.invariant.leaves c.push_both.ensures.pushed;
  same = c.push_both.ensures.same;
}
