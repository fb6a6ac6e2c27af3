-- How a peer begins.
--
-- DDS 1.4, 2.2.3 (policies of matched entities); RTPS 2.5, 8.2 (Participant, Endpoint).
use Rattle.std.specs.Prelude.{◌≡◌, ℕ, ◌==◌, ◌&&◌, nat_lt, List, [], ◌∷◌, length, is_some, Option, Some, None, if◌then◌else◌}
use Rattle.dds_base.specs.declared.code.Code.{Code}
use Rattle.dds_base.specs.declared.code.Code.TheVariants.{BadParameter}
use Rattle.dds_base.specs.declared.config.Config.{Config}
use Rattle.dds_base.specs.declared.config.PeerConfig.{PeerConfig}
use Rattle.dds_base.specs.Checked.{check_refusal}
use Rattle.dds_machine.specs.Numbered.{has_element}
use Rattle.dds_protocol.specs.Claims.{IsNumbered}
use Rattle.dds_protocol.specs.Opening.{opening_world}
use Rattle.dds_protocol.specs.Peer.{Peer}
use Rattle.dds_protocol.specs.Roster.{AreGood, ComeFirst, Roster, roster_of}
use Rattle.dds_protocol.specs.World.{peer_at}

-- why there is no peer of this number: the configuration is refused, or has none
abbrev pub core_refusal : List PeerConfig → ℕ → Option Code
core_refusal peers peer =
    if is_some (check_refusal peers) then check_refusal peers
    else (if has_element peers peer then None else Some BadParameter)

-- the peer of this number, at the opening
abbrev pub opening_peer : Config → ℕ → Peer
opening_peer config peer = peer_at (opening_world config) peer

-- so it is by the roster of each list of peers in which those of the configuration come first
abbrev pub InRosters : Config → (Roster → Type 0) → Type 0
InRosters config Is = (all : Config) → ComeFirst config all → AreGood all.peers → Is (roster_of all)

-- why the one peer of these does not come under this number: they are refused, or are more than one, or it is 0
abbrev pub coming_refusal : List PeerConfig → ℕ → Option Code
coming_refusal peers number =
    if is_some (check_refusal peers) then check_refusal peers
    else (if (length peers == 1) && nat_lt 0 number then None else Some BadParameter)

-- so it is by the roster of each list of peers that has the one of the configuration under this number
abbrev pub InRostersAt : Config → ℕ → (Roster → PeerConfig → Type 0) → Type 0
InRostersAt config number Is = (all : Config) (p : PeerConfig) → config.peers ≡ p ∷ [] → AreGood all.peers
    → IsNumbered all.peers number p → Is (roster_of all) p
