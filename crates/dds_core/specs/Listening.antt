-- A peer with the filters and the listeners of its application.
--
-- DDS 1.4, 2.2.2.1 (Entity, set_listener), 2.2.4.3 (access through listeners).
use Rattle.std.specs.Prelude.{◌≡◌, ◌≢◌, ℕ, ◌+◌, List, [], ◌∷◌, ◌++◌, length, Option, None, Some}
use Rattle.dds_base.specs.declared.code.Code.{Code}
use Rattle.dds_base.specs.declared.code.Code.TheVariants.{Memory}
use Rattle.dds_protocol.specs.Roster.{Roster}
use Rattle.dds_base.specs.declared.entity.Entity.{Entity}
use Rattle.dds_notices.specs.declared.mask.StatusMask.{StatusMask}
use Rattle.dds_notices.specs.declared.notice.Notice.{Notice}
use Rattle.dds_notices.specs.Listeners.{ByEntity, HandedBack, Slotted, StandsFor as SlotsStandFor, at_entity, kept_in, listener_refusal, listener_place, nobody, unknown_entity, with_entity}
use Rattle.dds_protocol.specs.Meetings.{MeetsByRoster}
use Rattle.dds_protocol.specs.declared.event.Event.{Event}
use Rattle.dds_protocol.specs.declared.event.Output.{Output}
use Rattle.dds_protocol.specs.Filters.{peer_with_filter}
use Rattle.dds_protocol.specs.Noticing.{peer_at_end, peer_with_place}
use Rattle.dds_protocol.specs.Peer.{Peer, PeerStep}
use Rattle.dds_machine.specs.Part.{Part}
use Rattle.dds_machine.specs.Watching.{Tests}
use Rattle.dds_conditions.specs.Watched.{filter_refusal}
use Rattle.dds_base.specs.Refusal.{Refuses}
use Rattle.dds_core.specs.Filtering.{FilteredKept, StandsFor as FilteredStandsFor}
use Rattle.dds_core.specs.Ruling.{IsSound, KeepsRules}
use Rattle.dds_core.specs.Somewhere.{Somewhere}

-- what a peer keeps, with its filters and its listeners
pub record CoreKept (F L : Type 0) : Type 0 where
  pub filtered : FilteredKept F
  pub listeners : Slotted L

-- no listener was given at an entity of this part
abbrev pub no_listeners : {L : Type 0} → Part → ByEntity L
no_listeners part = nobody (length part.rtps.writers) (length part.dds.readers)

-- A state of the peer for which this stands, with the listeners that it was given: each has kept the last ones of all
-- that it was told, by the notices that it keeps and how many it can keep, and is what the one that was given became by
-- being told.
pub record StandsFor {F L : Type 0} (notices : L → List Notice) (capacity : L → ℕ) (becomes : L → Notice → L → Type 0)
    (given : ByEntity L) (kept : CoreKept F L) (roster : Roster) (peer : Peer) : Type 0 where
  pub stands : FilteredStandsFor kept.filtered roster peer
  pub listeners : SlotsStandFor notices capacity becomes given kept.listeners peer.part.dds.listeners

-- For each state that the old values stand for, and of which all that is known was claimed, the event, by which the peer
-- meets nobody but whom the roster has (MeetReader, MeetWriter), is a step by what the filters mean, which follows the
-- rules of the protocol; at its end listeners are told what it raised. The new values stand for the state after that, and
-- all that is known of it was claimed. Some roster has whom the peer meets, whoever it is. The filters stay.
pub record Steps {F L : Type 0} (notices : L → List Notice) (capacity : L → ℕ) (becomes : L → Notice → L → Type 0)
    (tests : Tests) (old : CoreKept F L) (event : Event) (output : Output) (new : CoreKept F L) : Type 0 where
  pub step : (given : ByEntity L) (roster : Roster) (peer : Peer)
      → StandsFor notices capacity becomes given old roster peer → IsSound roster peer
      → MeetsByRoster roster peer.number event output.reply
      → (stepped : Peer) × PeerStep roster tests peer event output stepped × KeepsRules roster peer event output stepped
      × StandsFor notices capacity becomes given new roster (peer_at_end peer stepped)
      × IsSound roster (peer_at_end peer stepped)
  pub meets : (given : ByEntity L) (roster : Roster) (peer : Peer)
      → StandsFor notices capacity becomes given old roster peer → IsSound roster peer
      → Somewhere (StandsFor notices capacity becomes given old) peer event output.reply
  pub filters : new.filtered.filters ≡ old.filtered.filters

-- The filter is the last one. For each state that the old values stand for there is a number for it, and it is this
-- one; the new values stand for that state with one filter more, and nothing else; and what it knows was claimed, if it
-- was before.
pub record Adds {F L : Type 0} (notices : L → List Notice) (capacity : L → ℕ) (becomes : L → Notice → L → Type 0)
    (old : CoreKept F L) (filter : F) (number : ℕ) (new : CoreKept F L) : Type 0 where
  pub filters : new.filtered.filters ≡ old.filtered.filters ++ filter ∷ []
  pub adds : (given : ByEntity L) (roster : Roster) (peer : Peer)
      → StandsFor notices capacity becomes given old roster peer
      → (filter_refusal peer.part.dds.watch ≡ None) × (number ≡ length old.filtered.filters + 1)
      × StandsFor notices capacity becomes given new roster (peer_with_filter peer)
      × (IsSound roster peer → IsSound roster (peer_with_filter peer))

-- for each state that the old values stand for, a filter is refused so: for want of a number, or else of memory
abbrev pub RefusesFilter : {F L : Type 0} → (L → List Notice) → (L → ℕ) → (L → Notice → L → Type 0) → CoreKept F L
    → Code → Type 0
RefusesFilter {F} {L} notices capacity becomes old code =
    (given : ByEntity L) (roster : Roster) (peer : Peer) → StandsFor notices capacity becomes given old roster peer
    → Refuses (filter_refusal peer.part.dds.watch) code

-- A listener was set at an entity, or taken away there. For each state that the old values stand for it is not refused;
-- the listener of before is handed back, as what the one that was given became by being told; the new values stand for
-- that state with the place of the new one, which is given now, and nothing else changes; and what it knows was claimed, if it was before.
pub record Sets {F L : Type 0} (notices : L → List Notice) (capacity : L → ℕ) (becomes : L → Notice → L → Type 0)
    (old : CoreKept F L) (entity : Entity) (mask : StatusMask) (listener handed : Option L) (new : CoreKept F L) : Type 0 where
  pub filters : new.filtered.filters ≡ old.filtered.filters
  pub sets : (given : ByEntity L) (roster : Roster) (peer : Peer)
      → StandsFor notices capacity becomes given old roster peer
      → (listener_refusal notices peer.part.dds.listeners entity listener ≡ None)
      × HandedBack notices capacity becomes (at_entity given entity) handed (at_entity peer.part.dds.listeners entity)
      × StandsFor notices capacity becomes (with_entity given entity listener) new roster
      (peer_with_place peer entity (listener_place capacity mask listener))
      × (IsSound roster peer → IsSound roster (peer_with_place peer entity (listener_place capacity mask listener)))

-- for each state that the values stand for there is such an entity, and its listener keeps these notices
abbrev pub AreKept : {F L : Type 0} → (L → List Notice) → (L → ℕ) → (L → Notice → L → Type 0) → CoreKept F L → Entity
    → List Notice → Type 0
AreKept {F} {L} notices capacity becomes kept entity told =
    (given : ByEntity L) (roster : Roster) (peer : Peer) → StandsFor notices capacity becomes given kept roster peer
    → (unknown_entity peer.part.dds.listeners entity ≡ None)
    × (told ≡ kept_in (at_entity peer.part.dds.listeners entity))

-- for each state that the values stand for, the question which notices the listener of an entity keeps is refused so:
-- for want of memory where it keeps one
abbrev pub RefusesEntity : {F L : Type 0} → (L → List Notice) → (L → ℕ) → (L → Notice → L → Type 0) → CoreKept F L
    → Entity → Code → Type 0
RefusesEntity {F} {L} notices capacity becomes kept entity code =
    (given : ByEntity L) (roster : Roster) (peer : Peer) → StandsFor notices capacity becomes given kept roster peer
    → Refuses (unknown_entity peer.part.dds.listeners entity) code
    × (code ≡ Memory → kept_in (at_entity peer.part.dds.listeners entity) ≢ [])

-- for each state that the old values stand for, a listener is refused so
abbrev pub RefusesListener : {F L : Type 0} → (L → List Notice) → (L → ℕ) → (L → Notice → L → Type 0) → CoreKept F L
    → Entity → Option L → Code
    → Type 0
RefusesListener {F} {L} notices capacity becomes old entity listener code =
    (given : ByEntity L) (roster : Roster) (peer : Peer) → StandsFor notices capacity becomes given old roster peer
    → listener_refusal notices peer.part.dds.listeners entity listener ≡ Some code
