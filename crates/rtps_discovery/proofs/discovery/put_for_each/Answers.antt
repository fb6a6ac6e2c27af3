use Rattle.rtps_discovery.specs.Steps.{packet_for}
use Rattle.rtps_discovery.proofs.Lists.{filter_map-step}
use Rattle.rtps_discovery.proofs.discovery.put_for_each.Goals as goal

pub loop-row-preserved : goal.loop-row-preserved
loop-row-preserved c =
    filter_map-step (packet_for c.args.own.now c.args.for_one.now) c.args.rows.now c.loop-row.row-index c.row-item.result
    c.args.packets.now.items c.loop-row.packets.items c.put_packet.new.packets.items c.in_ok-packet.packet
    c.loop-row-test.true c.row-item.is c.in_ok-packet.ensures.ok c.loop-row.invariant c.in_ok-put_packet.ensures.ok
