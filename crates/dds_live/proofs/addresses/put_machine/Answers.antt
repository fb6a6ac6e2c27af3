use Rattle.dds_live.proofs.PortLaws.{put_more}
use Rattle.dds_live.proofs.addresses.put_machine.Goals as goal

pub loop-index-preserved : goal.loop-index-preserved
loop-index-preserved c =
    put_more c.args.address c.args.domain c.loop-index.index c.unicast_port-port.result c.args.addresses.now.items
    c.loop-index.addresses.items c.push.new.self.items c.loop-index.invariant c.unicast_port-port.ensures.port
    c.in_ok-push.ensures.items
