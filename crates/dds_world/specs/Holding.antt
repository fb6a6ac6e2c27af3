-- A network whose peers have filters and listeners of their applications.
--
-- DDS 1.4, 2.2.2.1 (Entity, set_listener), 2.2.2.5 (QueryCondition), 2.2.4.3 (access through listeners).
use Rattle.std.specs.Prelude.{◌≡◌, ℕ, ◌+◌, ◌⊎◌, ◌==◌, if◌then◌else◌, Bool, List, [], ◌∷◌, ◌++◌, map, length, Option, None, Some}
use Rattle.dds_base.specs.declared.config.Config.{Config}
use Rattle.dds_base.specs.declared.code.Code.{Code}
use Rattle.dds_base.specs.declared.code.Code.TheVariants.{BadParameter}
use Rattle.dds_protocol.specs.Roster.{Roster}
use Rattle.dds_base.specs.declared.entity.Entity.{Entity}
use Rattle.dds_base.specs.declared.key.Key.{Key}
use Rattle.dds_base.specs.Refusal.{Refuses}
use Rattle.dds_conditions.specs.Filtered.{tests_of}
use Rattle.dds_conditions.specs.Watched.{filter_refusal}
use Rattle.dds_notices.specs.declared.mask.StatusMask.{StatusMask}
use Rattle.dds_notices.specs.declared.notice.Notice.{Notice}
use Rattle.dds_notices.specs.Listeners.{ByEntity, HandedBack, Slotted, StandsFor as SlotsStandFor, at_entity, listener_refusal, listener_place, with_entity}
use Rattle.dds_protocol.specs.declared.event.Packet.{Packet}
use Rattle.dds_protocol.specs.Filters.{world_with_filter}
use Rattle.dds_machine.specs.Filters.{machine_with_filter}
use Rattle.dds_machine.specs.Machine.{AllTests, Machine, part_at}
use Rattle.dds_machine.specs.Noticing.{machine_with_place}
use Rattle.dds_protocol.specs.Noticing.{world_with_place}
use Rattle.dds_machine.specs.Numbered.{numbered, with_numbered, HasNumber}
use Rattle.dds_protocol.specs.World.{WorldState}
use Rattle.dds_core.specs.Listening.{CoreKept, no_listeners}
use Rattle.dds_world.specs.WorldStanding.{Hearing, WorldKept, MachineStandsIn, StandsFor}

-- the peers with their filters and listeners, every packet that was sent, and how many found no memory
pub record Held (F L : Type 0) : Type 0 where
  pub cores : List (CoreKept F L)
  pub sent : List Packet
  pub unsent : ℕ

-- ---- what is kept of them

-- the listeners of a peer, which was given these, stand for places
abbrev pub heard : {L : Type 0} → (L → List Notice) → (L → ℕ) → (L → Notice → L → Type 0) → (ℕ → ByEntity L) → Hearing
heard {L} notices capacity becomes given = record {
  Kept = Slotted L;
  stands = λ peer slots places. SlotsStandFor notices capacity becomes (given peer) slots places;
}

-- what it keeps beside what its filters are
abbrev pub kept_of : {F L : Type 0} (notices : L → List Notice) (capacity : L → ℕ) (becomes : L → Notice → L → Type 0)
    (given : ℕ → ByEntity L) → Held F L → WorldKept (heard notices capacity becomes given)
kept_of {F} {L} notices capacity becomes given held = record {
  peers = map (λ (c : CoreKept F L). c.filtered.peer) held.cores;
  filters = map (λ (c : CoreKept F L). length c.filtered.filters) held.cores;
  listeners = map (λ (c : CoreKept F L). c.listeners) held.cores;
  sent = held.sent;
  unsent = held.unsent;
}

-- a machine for which a network stands, whose peers were given these listeners
abbrev pub MachineStandsFor : {F L : Type 0} → (L → List Notice) → (L → ℕ) → (L → Notice → L → Type 0)
    → (ℕ → ByEntity L) → Held F L → Config → Machine → Type 0
MachineStandsFor notices capacity becomes given held config m =
    MachineStandsIn (kept_of notices capacity becomes given held) config m

-- what the peers were given, once this one was given a listener at an entity, or none
abbrev pub given_at : {L : Type 0} → (ℕ → ByEntity L) → ℕ → Entity → Option L → ℕ → ByEntity L
given_at given peer entity listener number =
    if number == peer then with_entity (given number) entity listener else given number

-- no listener was given at a machine's entities, by the peer's number
abbrev pub none_given : {L : Type 0} → Machine → ℕ → ByEntity L
none_given m number = no_listeners (part_at m number)

-- ---- filters

-- the filters of each peer
abbrev pub filters_of : {F L : Type 0} → Held F L → List (List F)
filters_of {F} {L} held = map (λ (c : CoreKept F L). c.filtered.filters) held.cores

-- what these filters of the peers answer, by the peers' numbers and the filters'
abbrev pub tests_by : {F : Type 0} → (F → Key → List ℕ → Bool) → List (List F) → AllTests
tests_by meaning filters peer = tests_of meaning (numbered filters peer [])

-- what the filters of a network answer
abbrev pub tests_in : {F L : Type 0} → (F → Key → List ℕ → Bool) → Held F L → AllTests
tests_in meaning held = tests_by meaning (filters_of held)

-- The peer of this number has the filter, as the last one, and nothing is sent or counted. For each machine that the old
-- network stands for there is a number for it, and it is this one, and the new network stands for that machine with one
-- filter more there, and nothing else; so it is of the states of its peers.
pub record Adds {F L : Type 0} (notices : L → List Notice) (capacity : L → ℕ) (becomes : L → Notice → L → Type 0)
    (old : Held F L) (peer : ℕ) (filter : F) (number : ℕ) (new : Held F L) : Type 0 where
  pub within : HasNumber old.cores peer
  pub filters : filters_of new ≡ with_numbered (filters_of old) peer (numbered (filters_of old) peer [] ++ filter ∷ [])
  pub sent : new.sent ≡ old.sent
  pub unsent : new.unsent ≡ old.unsent
  pub adds : (given : ℕ → ByEntity L) (config : Config) (m : Machine)
      → MachineStandsFor notices capacity becomes given old config m
      → (filter_refusal (part_at m peer).dds.watch ≡ None)
      × (number ≡ length (numbered (filters_of old) peer []) + 1)
      × MachineStandsFor notices capacity becomes given new config (machine_with_filter m peer)
  pub rules : (given : ℕ → ByEntity L) (roster : Roster) (network : WorldState)
      → StandsFor (kept_of notices capacity becomes given old) roster network
      → StandsFor (kept_of notices capacity becomes given new) roster (world_with_filter network peer)

-- For each machine that the network stands for, a filter is refused so: there is no such peer, or no number is left
-- there, or it is for want of memory.
abbrev pub RefusesFilter : {F L : Type 0} → (L → List Notice) → (L → ℕ) → (L → Notice → L → Type 0) → Held F L → ℕ
    → Code → Type 0
RefusesFilter {F} {L} notices capacity becomes held peer code =
    ((HasNumber held.cores peer → ⊥) × (code ≡ BadParameter))
    ⊎ (HasNumber held.cores peer
    × ((given : ℕ → ByEntity L) (config : Config) (m : Machine)
    → MachineStandsFor notices capacity becomes given held config m
    → Refuses (filter_refusal (part_at m peer).dds.watch) code))

-- ---- listeners

-- At a peer that there is a listener was set at an entity, or taken away there, and nothing is sent or counted. For each
-- machine that the old network stands for it is not refused; the listener of before is handed back, as what the one that
-- was given became by being told all that it was, one after another; and the new network stands for that machine with
-- the place of the new one, which is given now, and nothing else;
-- so it is of the states of its peers. No filter is added.
pub record Sets {F L : Type 0} (notices : L → List Notice) (capacity : L → ℕ) (becomes : L → Notice → L → Type 0)
    (old : Held F L) (peer : ℕ) (entity : Entity) (mask : StatusMask)
    (listener handed : Option L) (new : Held F L) : Type 0 where
  pub within : HasNumber old.cores peer
  pub filters : filters_of new ≡ filters_of old
  pub sent : new.sent ≡ old.sent
  pub unsent : new.unsent ≡ old.unsent
  pub sets : (given : ℕ → ByEntity L) (config : Config) (m : Machine)
      → MachineStandsFor notices capacity becomes given old config m
      → (listener_refusal notices (part_at m peer).dds.listeners entity listener ≡ None)
      × HandedBack notices capacity becomes (at_entity (given peer) entity) handed (at_entity (part_at m peer).dds.listeners entity)
      × MachineStandsFor notices capacity becomes (given_at given peer entity listener) new config
      (machine_with_place m peer entity (listener_place capacity mask listener))
  pub rules : (given : ℕ → ByEntity L) (roster : Roster) (network : WorldState)
      → StandsFor (kept_of notices capacity becomes given old) roster network
      → StandsFor (kept_of notices capacity becomes (given_at given peer entity listener) new) roster
      (world_with_place network peer entity (listener_place capacity mask listener))

-- For each machine that the network stands for, a listener is refused so: there is no such peer, or by the first cause
-- that there is at it.
abbrev pub RefusesListener : {F L : Type 0} → (L → List Notice) → (L → ℕ) → (L → Notice → L → Type 0) → Held F L → ℕ
    → Entity → Option L → Code
    → Type 0
RefusesListener {F} {L} notices capacity becomes held peer entity listener code =
    ((HasNumber held.cores peer → ⊥) × (code ≡ BadParameter))
    ⊎ (HasNumber held.cores peer
    × ((given : ℕ → ByEntity L) (config : Config) (m : Machine)
    → MachineStandsFor notices capacity becomes given held config m
    → listener_refusal notices (part_at m peer).dds.listeners entity listener ≡ Some code))
