-- A peer with the filters of its application, and what it stands for.
--
-- DDS 1.4, 2.2.2.5 (QueryCondition).
use Rattle.std.specs.Prelude.{◌≡◌, List, length}
use Rattle.dds_protocol.specs.Roster.{Roster}
use Rattle.dds_protocol.specs.Peer.{Peer}
use Rattle.dds_core.specs.Kept.{PeerKept}
use Rattle.dds_core.specs.Standing.{StandsFor as PeerStandsFor}

-- what a peer keeps, and the filters that were added to it, in their order
pub record FilteredKept (F : Type 0) : Type 0 where
  pub peer : PeerKept
  pub filters : List F

-- a state of the peer for which this stands: it has as many filters, so that each has the number of its place, from 1
pub record StandsFor {F : Type 0} (kept : FilteredKept F) (roster : Roster) (peer : Peer) : Type 0 where
  pub stands : PeerStandsFor kept.peer roster peer
  pub filters : peer.part.dds.watch.filters ≡ length kept.filters
