-- What holds of the machine, whatever comes (RTPS 2.5, 8.5: discovery).
use Rattle.std.specs.Prelude.{◌≡◌, ◌≤◌, ◌+◌, ℕ, false, List, length, Any, Contains, IfSome, Option, Some}
use Rattle.dds_base.specs.declared.guid.Guid.{Guid}
use Rattle.dds_base.specs.declared.guid.GuidPrefix.{GuidPrefix}
use Rattle.dds_base.specs.declared.mask.Masks.{Masks}
use Rattle.rtps_wire.specs.Messages.{HasHeader}
use Rattle.rtps_announcements.specs.declared.locator.Locator.{Locator}
use Rattle.rtps_announcements.specs.declared.participant.Participant.{Participant}
use Rattle.rtps_announcements.specs.declared.qos.EndpointKind.{EndpointKind}
use Rattle.rtps_discovery.specs.declared.packet.Packet.{Packet}
use Rattle.rtps_discovery.specs.declared.row.Limits.{Limits}
use Rattle.rtps_discovery.specs.declared.row.Row.{Row}
use Rattle.rtps_discovery.specs.declared.row.Told.{Told as Who}
use Rattle.rtps_discovery.specs.Laws.{IsFew as FewParticipants}
use Rattle.rtps_matching.specs.declared.end.End.{End}
use Rattle.rtps_matching.specs.declared.far.Far.{Far}
use Rattle.rtps_matching.specs.declared.told.Told.{Told}
use Rattle.rtps_matching.specs.Matches.{is_of}
use Rattle.rtps_matching.specs.Steps.{Table, has_own, told_of_own, told_without_own}
use Rattle.rtps_matching.specs.Laws.{StandOnce, ToldIsSo}
use Rattle.rtps_matching.specs.Laws.{IsFew as FewOf}
use Rattle.dds_discovery.specs.declared.due.Due.{Due}
use Rattle.dds_discovery.specs.declared.link.Link.{Link}
use Rattle.dds_discovery.specs.Dues.{is_link}
use Rattle.dds_discovery.specs.Events.{Delivers, added, opened, removed, ticked}
use Rattle.dds_discovery.specs.States.{State, due}
use Rattle.dds_discovery.specs.Steps.{Does}

-- A step leads from one state to another.
pub record Stepping : Type 0 where
  pub before : State
  pub next : Due
  pub told : List Told
  pub packet : Option Packet
  pub after : State
  pub is_next : due before ≡ Some next
  pub does : Does next before told packet after

-- A datagram that comes from an address at a moment does.
pub record Delivery : Type 0 where
  pub masks : Masks
  pub before : State
  pub moment : ℕ
  pub address : List ℕ
  pub bytes : List ℕ
  pub after : State
  pub told : Option Who
  pub packet : Option Packet
  pub delivers : Delivers masks before moment address bytes after told packet

-- ---- what is told

-- What is told of two tables is just what differs, and names stand once afterwards.
pub record IsTold (old : Table) (told : List Told) (new : Table) : Type 0 where
  pub tells : ToldIsSo old told new
  pub once : StandOnce new

abbrev pub StepsTell : Type 0
StepsTell = (s : Stepping) → StandOnce s.before.endpoints → IsTold s.before.endpoints s.told s.after.endpoints

abbrev pub AddsTell : Type 0
AddsTell = (e : End) (s : State) → has_own e.endpoint.guid s.endpoints ≡ false → StandOnce s.endpoints
    → IsTold s.endpoints (told_of_own e s.endpoints) (added e s).endpoints

abbrev pub RemovesTell : Type 0
RemovesTell = (guid : Guid) (kind : EndpointKind) (s : State) → StandOnce s.endpoints
    → IsTold s.endpoints (told_without_own guid s.endpoints) (removed guid kind s).endpoints

-- Datagrams and ticks leave all endpoints as they were, until a step is done.
abbrev pub DeliveriesTellNothing : Type 0
DeliveriesTellNothing = (d : Delivery) → d.after.endpoints ≡ d.before.endpoints

abbrev pub TicksTellNothing : Type 0
TicksTellNothing = (moment : ℕ) (s : State) → (ticked moment s).endpoints ≡ s.endpoints

-- Names stand once at first.
abbrev pub OpensOnce : Type 0
OpensOnce = (p : Participant) (domain : ℕ) (addresses : List Locator) (limits : Limits) (most : ℕ)
    → StandOnce (opened p domain addresses limits most).endpoints

-- ---- what is sent

-- What a step sends goes to an address that datagrams of a row came from.
abbrev pub StepsSendBack : Type 0
StepsSendBack = (s : Stepping) → IfSome s.packet (λ p. Any (λ (r : Row). r.source ≡ p.to.address) s.before.participants.rows)

-- ---- how much is known

-- It is so at first, and each event and each step leaves it so.
abbrev pub IsKept : (State → Type 0) → Type 0
IsKept P =
    ((p : Participant) (domain : ℕ) (addresses : List Locator) (limits : Limits) (most : ℕ)
    → P (opened p domain addresses limits most))
    × ((s : Stepping) → P s.before → P s.after) × ((d : Delivery) → P d.before → P d.after)
    × ((moment : ℕ) (s : State) → P s → P (ticked moment s)) × ((e : End) (s : State) → P s → P (added e s))
    × ((guid : Guid) (kind : EndpointKind) (s : State) → P s → P (removed guid kind s))

-- No more participants are known than may be.
abbrev pub FewRows : Type 0
FewRows = IsKept (λ s. FewParticipants s.participants)

-- no more links than there may be, those counted in with whom there can be none
abbrev pub IsFew : State → Type 0
IsFew s = length s.links + length s.unopened ≤ s.most

-- So it ever is.
abbrev pub FewLinks : Type 0
FewLinks = IsKept IsFew

-- Of no participant more endpoints are known than may be.
abbrev pub FewEndpoints : Type 0
FewEndpoints = (prefix : GuidPrefix) → IsKept (λ s. FewOf prefix s.endpoints)

-- ---- apart

-- A step is of one participant: the endpoints of each other stay as they were, and none comes.
abbrev pub StepsAreApart : Type 0
StepsAreApart = (s : Stepping) → (prefix : GuidPrefix) × ((f : Far) → is_of prefix f ≡ false
    → (Contains s.before.endpoints.far f → Contains s.after.endpoints.far f)
    × (Contains s.after.endpoints.far f → Contains s.before.endpoints.far f))

-- A datagram leaves the link with each other participant as it was, and brings none.
abbrev pub DeliveriesAreApart : Type 0
DeliveriesAreApart = (d : Delivery) (source : GuidPrefix) (body : List ℕ) → HasHeader d.bytes source body
    → (l : Link) → is_link source l ≡ false
    → (Contains d.before.links l → Contains d.after.links l) × (Contains d.after.links l → Contains d.before.links l)
