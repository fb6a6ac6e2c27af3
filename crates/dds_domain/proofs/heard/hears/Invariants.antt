-- none of those before
use Rattle.std.proofs.Common.{◌≡◌, false}
use Rattle.dds_core.specs.Standing.{StandsFor}
use Rattle.dds_protocol.specs.Peer.{Peer}
use Rattle.dds_protocol.specs.Roster.{Roster}
use Rattle.dds_domain.specs.Heard.{hears}
use Rattle.dds_domain.proofs.heard.hears.Given as goal

abbrev pub invariant-loop-before : goal.invariant-loop-before
invariant-loop-before l =
    (roster : Roster) (peer : Peer) → StandsFor l.exchange.core.filtered.peer roster peer
    → hears peer.part l.before l.writer ≡ false
