-- What a network stands for, and what its steps and runs promise of packets. What a value stands for need not be believed:
-- the contracts say all that matters of it.
--
-- The network is this project's own; its peers behave by RTPS 2.5, 8.4, and their listeners by DDS 1.4, 2.2.4.3.
use Rattle.std.specs.Prelude.{◌≡◌, ℕ, suc, ◌-◌, ◌^◌, ◌≤◌, List, length, get_or, slice_get, Some}
use Rattle.dds_base.specs.declared.config.Config.{Config}
use Rattle.dds_protocol.specs.Roster.{Roster, roster_of}
use Rattle.dds_notices.specs.Listeners.{Places}
use Rattle.dds_protocol.specs.Noticing.{world_ended}
use Rattle.dds_protocol.specs.declared.event.Packet.{Packet}
use Rattle.dds_machine.specs.declared.event.WorldEvent.{WorldEvent}
use Rattle.dds_machine.specs.declared.reply.Reply.{Reply}
use Rattle.dds_machine.specs.Machine.{AllTests, Machine}
use Rattle.dds_machine.specs.Runs.{OfEach}
use Rattle.dds_protocol.specs.Meetings.{MeetsInNetwork}
use Rattle.dds_protocol.specs.Bounds.{IsBounded}
use Rattle.dds_protocol.specs.Fresh.{HasUsedCounts}
use Rattle.dds_protocol.specs.Rules.{CountedStep, RuledRun}
use Rattle.dds_protocol.specs.Traffic.{Traffic}
use Rattle.dds_protocol.specs.World.{WorldState, machine_of, peer_at, Sound}
use Rattle.dds_core.specs.Kept.{PeerKept}
use Rattle.dds_ends.specs.Sending.{AreMessages}
use Rattle.dds_core.specs.Standing.{StandsFor as CoreStandsFor}
use Rattle.dds_core.specs.Ruling.{IsSound}

-- what is kept of a peer's listeners, and for which places it stands, by the peer's number
pub record Hearing : Type 1 where
  pub Kept : Type 0
  pub stands : ℕ → Kept → Places → Type 0

-- the peers, how many filters were added to each, what is kept of its listeners, every packet that was sent, and how
-- many found no memory
pub record WorldKept (hearing : Hearing) : Type 0 where
  pub peers : List PeerKept
  pub filters : List ℕ
  pub listeners : List hearing.Kept
  pub sent : List Packet
  pub unsent : ℕ

-- A state of the network for which what it keeps stands: so its peers stand, have as many filters, have listeners that
-- stand for what they were told, and know what was claimed to them alone; all that packets claim is
-- true, and each packet is a message; what is counted as unsent keeps to its bound; the counts that were sent or taken
-- were used by their senders; and no reader's place is past the end of a list.
pub record StandsFor {hearing : Hearing} (kept : WorldKept hearing) (roster : Roster) (network : WorldState)
    : Type 0 where
  pub count : length network.peers ≡ length kept.peers
  pub each : (i : ℕ) (k : PeerKept) → slice_get kept.peers i ≡ Some k
      → CoreStandsFor k roster (peer_at network (suc i))
  pub known : (i : ℕ) (k : PeerKept) → slice_get kept.peers i ≡ Some k → IsSound roster (peer_at network (suc i))
  pub filters : (i : ℕ) → (peer_at network (suc i)).part.dds.watch.filters ≡ get_or kept.filters i 0
  pub listened : length network.peers ≡ length kept.listeners
  pub listeners : (i : ℕ) (k : hearing.Kept) → slice_get kept.listeners i ≡ Some k
      → hearing.stands (suc i) k (peer_at network (suc i)).part.dds.listeners
  pub sent : network.sent ≡ kept.sent
  pub sound : Sound roster network
  pub messages : AreMessages kept.sent
  pub few : kept.unsent ≤ 2 ^ 64 - 1
  pub used : HasUsedCounts roster network
  pub bounded : IsBounded (machine_of network)

-- A machine for which what a network keeps stands: its parts are those of the peers in a state for which it stands.
abbrev pub MachineStands : {hearing : Hearing} → WorldKept hearing → Roster → Machine → Type 0
MachineStands kept roster m =
    (network : WorldState) × (machine_of network ≡ m) × StandsFor kept roster network

-- the same by the roster of a configuration
abbrev pub MachineStandsIn : {hearing : Hearing} → WorldKept hearing → Config → Machine → Type 0
MachineStandsIn kept config m = MachineStands kept (roster_of config) m

-- the packets that were sent, and how many were not
abbrev pub traffic : {hearing : Hearing} → WorldKept hearing → Traffic
traffic kept = record { sent = kept.sent; unsent = kept.unsent }

-- whom a peer meets by the event, the configuration has
abbrev pub MeetsByConfig : Config → WorldEvent → Reply → Type 0
MeetsByConfig config event reply = MeetsInNetwork (roster_of config) event reply

-- For each state that the old network stood for, and whose roster has whom a peer meets by the event, it is a step of its
-- peers by the rules of the protocol, which say which messages are due, and of these each is sent, in their order, or
-- counted; it is a step of the machine that the peers are the parts of; and the new network stands for the state at its
-- end, once listeners were told.
abbrev pub KeepsRules : {hearing : Hearing} → AllTests → WorldKept hearing → WorldEvent → Reply → WorldKept hearing
    → Type 0
KeepsRules tests old event reply new = (roster : Roster) (network : WorldState) → StandsFor old roster network
    → MeetsInNetwork roster event reply
    → (after : WorldState) × CountedStep roster tests network old.unsent event reply after new.unsent
    × StandsFor new roster (world_ended network event after)

-- the same of an event by which nobody is met
abbrev pub KeepsRulesAlone : {hearing : Hearing} → AllTests → WorldKept hearing → WorldEvent → Reply → WorldKept hearing
    → Type 0
KeepsRulesAlone tests old event reply new = (roster : Roster) (network : WorldState) → StandsFor old roster network
    → (after : WorldState) × CountedStep roster tests network old.unsent event reply after new.unsent
    × StandsFor new roster (world_ended network event after)

-- For each state that the old network stood for, and whose roster has whom its peers meet, these replies to the events
-- are a run of its peers by the rules of the protocol, and the new network stands for the state afterwards.
pub record RunsByRules {hearing : Hearing} (tests : AllTests) (old : WorldKept hearing) (events : List WorldEvent)
    (replies : List Reply)
    (new : WorldKept hearing) : Type 0 where
  pub run : (roster : Roster) (network : WorldState) → StandsFor old roster network
      → OfEach (MeetsInNetwork roster) events replies
      → (after : WorldState) × RuledRun roster tests network old.unsent events replies after new.unsent
      × StandsFor new roster after
