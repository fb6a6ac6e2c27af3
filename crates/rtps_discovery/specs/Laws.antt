-- What holds of every table of participants, every datagram and every tick (RTPS 2.5, 8.5.3: SPDP).
use Rattle.std.specs.Prelude.{◌≡◌, ◌≢◌, ◌⊎◌, ◌≤◌, ◌<◌, ◌+◌, ℕ, Bool, true, false, List, length, slice_index_or, Any, Contains, IfSome, Option, None, Some}
use Rattle.std.specs.List.{count_by}
use Rattle.dds_base.specs.declared.guid.GuidPrefix.{GuidPrefix}
use Rattle.rtps_wire.specs.Messages.{HasHeader}
use Rattle.rtps_announcements.specs.declared.locator.Locator.{Locator}
use Rattle.rtps_announcements.specs.declared.participant.Participant.{Participant}
use Rattle.rtps_discovery.specs.declared.packet.Packet.{Packet}
use Rattle.rtps_discovery.specs.declared.row.Limits.{Limits}
use Rattle.rtps_discovery.specs.declared.row.Row.{Row}
use Rattle.rtps_discovery.specs.declared.row.Told.{Told}
use Rattle.rtps_discovery.specs.declared.row.Told.TheVariants.{Appeared, Gone}
use Rattle.rtps_discovery.specs.Leases.{taken_lease}
use Rattle.rtps_discovery.specs.Rows.{is_from, is_row_at, is_there}
use Rattle.rtps_discovery.specs.Steps.{State, Delivers, farewells, is_other, opened, sent_at, ticked}

-- A datagram comes from an address at a moment, and leads from one state to another.
pub record Delivery : Type 0 where
  pub before : State
  pub moment : ℕ
  pub address : List ℕ
  pub bytes : List ℕ
  pub after : State
  pub told : Option Told
  pub packet : Option Packet
  pub delivers : Delivers before moment address bytes after told packet

-- ---- others stay

-- Of each row but that of the datagram's sender at the datagram's address: it stays as it was, where it is awake, and it is
-- not new.
abbrev pub OthersStay : Type 0
OthersStay = (d : Delivery) (source : GuidPrefix) (body : List ℕ) → HasHeader d.bytes source body → (r : Row)
    → is_row_at source d.address r ≡ false
    → (Contains d.before.rows r → r.is_awake ≡ true → Contains d.after.rows r)
    × (Contains d.after.rows r → Contains d.before.rows r)

-- What is no message of another participant leaves all rows as they were.
abbrev pub NothingChanges : Type 0
NothingChanges = (d : Delivery)
    → ((source : GuidPrefix) (body : List ℕ) → HasHeader d.bytes source body → is_other d.before source ≡ false)
    → d.after.rows ≡ d.before.rows

-- ---- how many are known

-- no more than may be known at a time
abbrev pub IsFew : State → Type 0
IsFew s = length s.rows ≤ s.limits.of_all

-- no more of an address than may be known at a time
abbrev pub IsFewAt : List ℕ → State → Type 0
IsFewAt address s = count_by (is_from address) s.rows ≤ s.limits.of_one_address

-- It is so at first, and each delivery and each tick leaves it so.
abbrev pub IsKept : (State → Type 0) → Type 0
IsKept P =
    ((p : Participant) (domain : ℕ) (addresses : List Locator) (limits : Limits) → P (opened p domain addresses limits))
    × ((d : Delivery) → P d.before → P d.after) × ((s : State) (now : ℕ) → P s → P (ticked s now))

-- never more than the limit
abbrev pub FewAreKnown : Type 0
FewAreKnown = IsKept IsFew

-- never more of one address than the limit
abbrev pub FewAreKnownAt : Type 0
FewAreKnownAt = (address : List ℕ) → IsKept (IsFewAt address)

-- ---- leases

-- Who is there after a tick was heard so lately that its lease has not ended.
abbrev pub LeasesEnd : Type 0
LeasesEnd = (s : State) (now : ℕ) (r : Row) → Contains (ticked s now).rows r → r.is_awake ≡ true
    → now < r.heard + taken_lease r.participant.lease

-- A row is as it was, but that it may have begun to sleep.
pub record SleepsAtMost (old new : Row) : Type 0 where
  pub participant : new.participant ≡ old.participant
  pub source : new.source ≡ old.source
  pub heard : new.heard ≡ old.heard
  pub awake : new.is_awake ≡ true → old.is_awake ≡ true

-- A tick changes nothing else: the rows stand as they stood, one by one.
abbrev pub TicksOnlySleep : Type 0
TicksOnlySleep = (s : State) (now : ℕ) → (length (ticked s now).rows ≡ length s.rows)
    × ((k : ℕ) (d : Row) → k < length s.rows → SleepsAtMost (slice_index_or s.rows k d) (slice_index_or (ticked s now).rows k d))

-- ---- what is sent

-- What a datagram is answered goes to the address that it came from.
abbrev pub AnswersGoBack : Type 0
AnswersGoBack = (d : Delivery) → IfSome d.packet (λ p. p.to.address ≡ d.address)

-- a row of this address
abbrev pub HasSource : List Row → List ℕ → Type 0
HasSource rows address = Any (λ r. r.source ≡ address) rows

-- It goes to an address that is told of us anyway, or to one that datagrams of a row came from.
abbrev pub GoesTo : State → Locator → Type 0
GoesTo s to = Contains s.addresses to ⊎ HasSource s.rows to.address

-- What is sent at a tick goes there.
abbrev pub AnnouncementsGoToKnown : Type 0
AnnouncementsGoToKnown = (s : State) (now : ℕ) (p : Packet) → Contains (sent_at s now) p → GoesTo s p.to

-- What is sent as we leave goes there.
abbrev pub FarewellsGoToKnown : Type 0
FarewellsGoToKnown = (s : State) (p : Packet) → Contains (farewells s) p → GoesTo s p.to

-- Datagrams came from the address of each row: this one, or those before.
abbrev pub SourcesWereHeard : Type 0
SourcesWereHeard = (d : Delivery) (r : Row) → Contains d.after.rows r
    → (r.source ≡ d.address) ⊎ HasSource d.before.rows r.source

-- ---- what is told

-- What is told of a participant is so: it was there or not, and now is or is not.
abbrev pub IsSo : GuidPrefix → Bool → Bool → Option Told → Type 0
IsSo source was is None = is ≡ was
IsSo source was is (Some (Appeared p)) = (p ≡ source) × (was ≡ false) × (is ≡ true)
IsSo source was is (Some (Gone p)) = (p ≡ source) × (was ≡ true) × (is ≡ false)

-- So it is of the sender of a datagram.
abbrev pub ToldIsSo : Type 0
ToldIsSo = (d : Delivery) (source : GuidPrefix) (body : List ℕ) → HasHeader d.bytes source body
    → IsSo source (is_there source d.before.rows) (is_there source d.after.rows) d.told

-- Whoever did not send it is there as before.
abbrev pub OthersAreThere : Type 0
OthersAreThere = (d : Delivery) (prefix : GuidPrefix)
    → ((source : GuidPrefix) (body : List ℕ) → HasHeader d.bytes source body → source ≢ prefix)
    → is_there prefix d.after.rows ≡ is_there prefix d.before.rows
