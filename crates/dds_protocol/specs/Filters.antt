-- One filter more at a peer of a network, and nothing else.
--
-- DDS 1.4, 2.2.2.5 (QueryCondition).
use Rattle.std.specs.Prelude.{ℕ}
use Rattle.dds_machine.specs.Filters.{part_with_filter}
use Rattle.dds_machine.specs.Numbered.{with_numbered}
use Rattle.dds_protocol.specs.Peer.{Peer}
use Rattle.dds_protocol.specs.World.{WorldState, peer_at}

-- a peer with one filter more
abbrev pub peer_with_filter : Peer → Peer
peer_with_filter peer = record peer { part = part_with_filter peer.part }

-- a network with one filter more at the peer of this number
abbrev pub world_with_filter : WorldState → ℕ → WorldState
world_with_filter world peer =
    record world { peers = with_numbered world.peers peer (peer_with_filter (peer_at world peer)) }
