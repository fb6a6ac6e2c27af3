-- A network at an event's end, where listeners are told, and one in which a listener was set.
--
-- DDS 1.4, 2.2.4.3 (access through listeners).
use Rattle.std.specs.Prelude.{ℕ, Option}
use Rattle.dds_base.specs.declared.entity.Entity.{Entity}
use Rattle.dds_notices.specs.Listeners.{Place}
use Rattle.dds_machine.specs.declared.event.WorldEvent.{WorldEvent}
use Rattle.dds_machine.specs.Noticing.{at_end, part_with_place, peer_of}
use Rattle.dds_machine.specs.Numbered.{with_numbered}
use Rattle.dds_protocol.specs.Peer.{Peer}
use Rattle.dds_protocol.specs.World.{WorldState, peer_at}

-- a peer, once an event has ended at it
abbrev pub peer_at_end : Peer → Peer → Peer
peer_at_end before peer = record peer { part = at_end before.part peer.part }

-- a network at the end of an event
abbrev pub world_ended : WorldState → WorldEvent → WorldState → WorldState
world_ended before e world =
    record world {
      peers = with_numbered world.peers (peer_of e)
          (peer_at_end (peer_at before (peer_of e)) (peer_at world (peer_of e)));
    }

-- ---- listeners that are set

-- a peer with another place of a listener at an entity, or none
abbrev pub peer_with_place : Peer → Entity → Option Place → Peer
peer_with_place peer entity place = record peer { part = part_with_place peer.part entity place }

-- a network in which the peer of this number has that
abbrev pub world_with_place : WorldState → ℕ → Entity → Option Place → WorldState
world_with_place world peer entity place =
    record world { peers = with_numbered world.peers peer (peer_with_place (peer_at world peer) entity place) }
