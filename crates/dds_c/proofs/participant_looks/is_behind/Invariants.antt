-- none is behind at those so far
use Rattle.std.proofs.Common.{◌≡◌, ◌<◌, ◌≤◌, ℕ, false}
use Rattle.dds_core.specs.Standing.{StandsFor}
use Rattle.dds_protocol.specs.Peer.{Peer}
use Rattle.dds_protocol.specs.Roster.{Roster}
use Rattle.dds_exchange.specs.Behind.{is_behind}
use Rattle.dds_c.proofs.participant_looks.is_behind.Given as goal

abbrev pub invariant-loop-writer : goal.invariant-loop-writer
invariant-loop-writer l =
    (roster : Roster) (peer : Peer) → StandsFor l.participant.sharing.exchange.core.filtered.peer roster peer
    → (writer : ℕ) → 1 ≤ writer → writer < l.writer → is_behind peer.part l.participant.sharing.exchange.named writer ≡ false
