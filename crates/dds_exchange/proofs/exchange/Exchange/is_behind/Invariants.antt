-- none of those so far is behind
use Rattle.std.proofs.Common.{◌≡◌, false, take}
use Rattle.std.specs.List.{list_any}
use Rattle.dds_core.specs.Standing.{StandsFor}
use Rattle.dds_machine.specs.Part.{own_writer}
use Rattle.dds_protocol.specs.Peer.{Peer}
use Rattle.dds_protocol.specs.Roster.{Roster}
use Rattle.dds_exchange.specs.Behind.{is_end_behind}
use Rattle.dds_exchange.proofs.exchange.Exchange.is_behind.Given as goal

abbrev pub invariant-loop-end : goal.invariant-loop-end
invariant-loop-end l =
    (roster : Roster) (peer : Peer) → StandsFor l.self.core.filtered.peer roster peer
    → list_any (is_end_behind (own_writer peer.part l.writer)) (take l.end-index l.self.named) ≡ false
