-- The opening of a network: its peers have the parts of the machine at its opening, and know nothing.
--
-- RTPS 2.5, 8.4.7 (matched_readers), 8.4.10 (matched_writers).
use Rattle.std.specs.Prelude.{ℕ, ◌+◌, List, [], ◌∷◌}
use Rattle.dds_base.specs.declared.config.Config.{Config}
use Rattle.dds_base.specs.declared.config.PeerConfig.{PeerConfig}
use Rattle.dds_machine.specs.Opening.{opening_part}
use Rattle.dds_protocol.specs.Peer.{Peer}
use Rattle.dds_protocol.specs.Protocol.{knows_nothing}
use Rattle.dds_protocol.specs.World.{WorldState}

-- these peers, numbered on from this number, at their opening: nothing is known, and nothing was delivered
abbrev pub opening_peers : List PeerConfig → ℕ → List PeerConfig → List Peer
opening_peers peers number [] = []
opening_peers peers number (p ∷ ps) =
    record { number = number; part = opening_part peers p; known = knows_nothing; delivered = [] } ∷ opening_peers peers
    (number + 1) ps

-- the network at its opening
abbrev pub opening_world : Config → WorldState
opening_world config = record { peers = opening_peers config.peers 1 config.peers; sent = [] }
