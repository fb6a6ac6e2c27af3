-- those so far are printed
use Rattle.std.proofs.Common.{take}
use Rattle.std.specs.Io.KnownBytes.{Appends}
use Rattle.dds_discover.specs.Session.{packet_lines}
use Rattle.dds_discover.proofs.session.print_packets.Given as goal

abbrev pub invariant-loop-packet : goal.invariant-loop-packet
invariant-loop-packet g l =
    Appends (g.W.Write.contents l.initial.output) (g.W.Write.contents l.output) (packet_lines (take l.packet-index l.packets))
