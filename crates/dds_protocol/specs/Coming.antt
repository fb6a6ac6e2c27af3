-- A peer that comes to a network, the next one of its roster: its writers and its readers are matched with its own alone,
-- until they are told of others. Nothing of what is there changes by it.
--
-- RTPS 2.5, 8.2 (Participant), 8.4.7 (matched_readers), 8.4.10 (matched_writers).
use Rattle.std.specs.Prelude.{◌≡◌, ℕ, ◌+◌, [], ◌∷◌, ◌++◌, length}
use Rattle.dds_base.specs.declared.config.Config.{Config}
use Rattle.dds_base.specs.declared.config.PeerConfig.{PeerConfig}
use Rattle.dds_machine.specs.Machine.{Machine}
use Rattle.dds_machine.specs.Opening.{coming_part, machine_with_peer}
use Rattle.dds_protocol.specs.Bounds.{IsBounded}
use Rattle.dds_protocol.specs.Claims.{IsNumbered}
use Rattle.dds_protocol.specs.Fresh.{HasUsedCounts}
use Rattle.dds_protocol.specs.Opening.{opening_world}
use Rattle.dds_protocol.specs.Peer.{Peer}
use Rattle.dds_protocol.specs.Protocol.{knows_nothing}
use Rattle.dds_protocol.specs.Roster.{ComeFirst, roster_of}
use Rattle.dds_protocol.specs.World.{WorldState, machine_of, Sound}

-- a peer that comes with this number: it knows nothing, and nothing was delivered to it
abbrev pub coming_peer : ℕ → PeerConfig → Peer
coming_peer number p = record { number = number; part = coming_part number p; known = knows_nothing; delivered = [] }

-- the network, to which it comes
abbrev pub world_with_peer : WorldState → PeerConfig → WorldState
world_with_peer world p = record world { peers = world.peers ++ coming_peer (length world.peers + 1) p ∷ [] }

-- the peers that it is then are the parts of the machine to which it comes
abbrev pub ComesAsPart : Type 0
ComesAsPart = (world : WorldState) (p : PeerConfig)
    → machine_of (world_with_peer world p) ≡ machine_with_peer (machine_of world) p

-- the roster has it next
abbrev pub IsNext : Config → WorldState → PeerConfig → Type 0
IsNext roster world p = IsNumbered roster.peers (length world.peers + 1) p

-- all claims are true at the opening of every configuration also by a roster that goes on behind its peers
abbrev pub OpensSoundFirst : Type 0
OpensSoundFirst = (config roster : Config) → ComeFirst config roster → Sound (roster_of roster) (opening_world config)

-- and no count has been used
abbrev pub OpensUsedFirst : Type 0
OpensUsedFirst = (config roster : Config) → ComeFirst config roster
    → HasUsedCounts (roster_of roster) (opening_world config)

-- what packets claim stays true as a peer comes
abbrev pub ComesSound : Type 0
ComesSound = (roster : Config) (world : WorldState) (p : PeerConfig) → Sound (roster_of roster) world
    → IsNext roster world p → Sound (roster_of roster) (world_with_peer world p)

-- the counts that were sent or taken stay used
abbrev pub ComesUsed : Type 0
ComesUsed = (roster : Config) (world : WorldState) (p : PeerConfig) → HasUsedCounts (roster_of roster) world
    → IsNext roster world p → HasUsedCounts (roster_of roster) (world_with_peer world p)

-- places stay within the lists
abbrev pub ComesBounded : Type 0
ComesBounded = (m : Machine) (p : PeerConfig) → IsBounded m → IsBounded (machine_with_peer m p)
