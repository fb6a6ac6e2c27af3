-- What a datagram holds that would be nothing to the peer that is open.
--
-- RTPS 2.5, 8.3.4 (the message receiver); that it is asked before a datagram is delivered is this project's own.
use Rattle.std.specs.Prelude.{◌≡◌, ℕ, List, Option, Some, None}
use Rattle.dds_base.specs.declared.endpoint.Endpoint.{Endpoint}
use Rattle.dds_protocol.specs.Peer.{Peer}
use Rattle.dds_protocol.specs.Roster.{Roster}
use Rattle.dds_core.specs.Observing.{Observes}
use Rattle.dds_core.specs.Standing.{StandsFor}
use Rattle.dds_core.specs.declared.observing.Observed.{Observed}
use Rattle.dds_c.specs.declared.observing.FlatObserved.{FlatObserved}
use Rattle.dds_c.specs.declared.session.Session.{Session}

-- what C reads
abbrev pub observed_of : FlatObserved → Observed
observed_of f = record { old_data = f.old_data; old_heartbeats = f.old_heartbeats; to_nobody = f.to_nobody }

-- so it is in each state that the peer stands for: of the writer that is asked for, else of all
pub record IsObserved (s : Session) (of : Option Endpoint) (datagram : List ℕ) (seen : Observed) : Type 0 where
  pub observes : (roster : Roster) (peer : Peer) → StandsFor s.core.filtered.peer roster peer
      → Observes roster peer of datagram seen

-- it is written where a peer is open; else the code is 4, and nothing is written
abbrev pub ObservedBy : Option Session → Option Endpoint → List ℕ → (was now : FlatObserved) → ℕ → Type 0
ObservedBy (Some s) of datagram was now code = (code ≡ 0) × IsObserved s of datagram (observed_of now)
ObservedBy None of datagram was now code = (code ≡ 4) × (now ≡ was)
