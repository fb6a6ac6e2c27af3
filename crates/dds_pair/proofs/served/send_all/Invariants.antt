use Rattle.std.proofs.Common.{take}
use Rattle.std.specs.List.{FoldsTo}
use Rattle.dds_pair.proofs.served.send_all.Given as goal

abbrev pub invariant-loop-packet : goal.invariant-loop-packet
invariant-loop-packet g l = FoldsTo g.K.Link.sends l.fn.link (take l.packet-index l.packets) l.link
