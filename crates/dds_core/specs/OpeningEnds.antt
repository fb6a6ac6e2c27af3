-- How the writers and the readers of a peer begin. Inner functions alone cite this: nothing here has to be believed.
--
-- DDS 1.4, 2.2.3 (policies of matched entities); RTPS 2.5, 8.2 (Participant, Endpoint).
use Rattle.std.specs.Prelude.{◌≡◌, ℕ, ◌+◌, List, [], length, slice_get, Some}
use Rattle.dds_base.specs.declared.config.Config.{Config}
use Rattle.dds_base.specs.declared.config.PeerConfig.{PeerConfig}
use Rattle.dds_machine.specs.Opening.{part_from}
use Rattle.dds_protocol.specs.Claims.{IsNumbered}
use Rattle.dds_protocol.specs.Peer.{Peer}
use Rattle.dds_protocol.specs.Protocol.{knows_nothing}
use Rattle.dds_protocol.specs.Roster.{AreGood, roster_of}
use Rattle.dds_core.specs.Kept.{PeerKept}
use Rattle.dds_core.specs.Standing.{StandsFor}

-- one for each of these configurations, in their order, as it is opened
pub record OpensEach {C K : Type 0} (Opens : C → K → Type 0) (configs : List C) (kept : List K) : Type 0 where
  pub count : length kept ≡ length configs
  pub each : (i : ℕ) (c : C) (k : K) → slice_get configs i ≡ Some c → slice_get kept i ≡ Some k → Opens c k

-- all these peers have these, one after the other, from this number on
abbrev pub HasFrom : Config → ℕ → List PeerConfig → Type 0
HasFrom all first peers = (i : ℕ) (p : PeerConfig) → slice_get peers i ≡ Some p → IsNumbered all.peers (first + i) p

-- one of these peers, of which the first has this number, as it begins, by its index
abbrev pub begun : ℕ → List PeerConfig → PeerConfig → ℕ → Peer
begun first peers p index =
    record { number = first + index; part = part_from first peers p; known = knows_nothing; delivered = [] }

-- by the roster of each list that has them so, the peer of this index stands for its beginning
abbrev pub OpensCore : ℕ → List PeerConfig → ℕ → PeerKept → Type 0
OpensCore first peers index kept = (all : Config) (own : PeerConfig) → AreGood all.peers → HasFrom all first peers
    → slice_get peers index ≡ Some own → StandsFor kept (roster_of all) (begun first peers own index)
