-- Which writers of others our readers are matched with (RTPS 2.5, 8.4.10: StatefulReader, matched_writers).
use Rattle.std.specs.Prelude.{◌≡◌, ℕ, zero, suc, ◌+◌, ◌||◌, Bool, false, List, find}
use Rattle.std.specs.Option.{option_map_or}
use Rattle.dds_base.specs.declared.endpoint.Endpoint.{Endpoint}
use Rattle.dds_base.specs.declared.guid.Guid.{Guid}
use Rattle.dds_core.specs.Standing.{StandsFor}
use Rattle.dds_machine.specs.Part.{Part, how_of, is_attached, own_proxies}
use Rattle.dds_protocol.specs.Peer.{Peer}
use Rattle.dds_protocol.specs.Roster.{Roster}
use Rattle.rtps_announcements.specs.declared.qos.EndpointKind.{EndpointKind}
use Rattle.rtps_announcements.specs.declared.qos.EndpointKind.TheVariants.{Reader, Writer}
use Rattle.dds_exchange.specs.Naming.{is_named}
use Rattle.dds_exchange.specs.States.{State as Exchange}
use Rattle.dds_exchange.specs.declared.naming.NamedEnd.{NamedEnd}

-- a peer has so many readers at most
abbrev pub most_readers : ℕ
most_readers = 16

-- one of our first so many readers is matched with a writer of this name
abbrev pub hears : Part → ℕ → Endpoint → Bool
hears part zero writer = false
hears part (suc n) writer = hears part n writer || is_attached (how_of (own_proxies part (n + 1)) writer)

-- it is a writer, and one of our readers is matched with it
abbrev pub is_heard_as : EndpointKind → Part → Endpoint → Bool
is_heard_as Writer part name = hears part most_readers name
is_heard_as Reader part name = false

abbrev pub is_heard_end : Part → NamedEnd → Bool
is_heard_end part end = is_heard_as end.kind part end.name

-- so is the one that is called so
abbrev pub is_heard : Part → List NamedEnd → Guid → Bool
is_heard part named far = option_map_or (is_heard_end part) (find (is_named far) named) false

-- it is so, or is not, in each state that our peer stands for
abbrev pub IsHeardSo : Bool → Exchange → Guid → Type 0
IsHeardSo heard e far =
    (roster : Roster) (peer : Peer) → StandsFor e.core.filtered.peer roster peer → is_heard peer.part e.named far ≡ heard
