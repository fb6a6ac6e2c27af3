-- those so far went out
use Rattle.std.proofs.Common.{take}
use Rattle.dds_domain.specs.Sharings.{SendsAll}
use Rattle.dds_domain.proofs.sharing.Sharing.send_all.Given as goal

abbrev pub invariant-loop-packet : goal.invariant-loop-packet
invariant-loop-packet l = SendsAll l.self.exchange l.rows (take l.packet-index l.packets) l.initial.turn l.turn
