use Rattle.discovery_script.specs.Told.{packet_line}
use Rattle.dds_discover.proofs.PrintingLaws.{one_more}
use Rattle.dds_discover.proofs.session.print_packets.Goals as goal

pub loop-packet-preserved : goal.loop-packet-preserved
loop-packet-preserved g c =
    one_more packet_line c.args.packets.now c.loop-packet.packet-index c.packet-item.result
    (g.W.Write.contents c.args.output.now) (g.W.Write.contents c.loop-packet.output)
    (g.W.Write.contents c.print_packet.new.output) c.loop-packet-test.true c.packet-item.is c.loop-packet.invariant
    c.in_ok-print_packet.ensures.printed
