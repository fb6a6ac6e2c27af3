-- What a peer stands for, by what its ends stand for, and what stays while nobody comes or goes for what the
-- roster says of it. What a value stands for need not be believed: the contracts say all that matters of it.
--
-- RTPS 2.5, 8.2 (Participant): the machine has it without packets.
use Rattle.std.specs.Prelude.{◌≡◌, ◌<◌}
use Rattle.dds_protocol.specs.Roster.{Roster}
use Rattle.dds_base.specs.Bounds.{end_of_moments}
use Rattle.dds_protocol.specs.Dues.{AreTellable}
use Rattle.dds_protocol.specs.Peer.{Peer}
use Rattle.dds_core.specs.Kept.{PeerKept}
use Rattle.dds_core.specs.Identity.{identity_of, KnowsNames, IsPeerOf}
use Rattle.dds_ends.specs.Standing.{WritersStand, ReadersStand}

-- a state of the peer for which what is kept stands
pub record StandsFor (kept : PeerKept) (roster : Roster) (peer : Peer) : Type 0 where
  pub is_peer : IsPeerOf roster peer.number (identity_of kept)
  pub knows : KnowsNames roster peer.number (identity_of kept) kept.names
  pub moment : peer.part.dds.moment ≡ kept.moment
  pub early : kept.moment < end_of_moments
  pub writers : WritersStand kept.writers peer.part.rtps.writers peer.known.answered
  pub readers : ReadersStand kept.readers peer.part.rtps.readers peer.part.dds.readers peer.known
  pub names : peer.part.rtps.names ≡ kept.names
  pub tellable : AreTellable peer.part
  pub watch : peer.part.dds.watch ≡ kept.watch
