-- What an event of one peer does to the network, and how the peers are opened. Inner functions alone cite this: nothing
-- here has to be believed.
--
-- The network is this project's own; its peers behave by RTPS 2.5, 8.4, and their listeners by DDS 1.4, 2.2.4.3.
use Rattle.std.specs.Prelude.{◌≡◌, ℕ, suc, ◌+◌, ◌-◌, ◌^◌, ◌≤◌, min, List, length, set, get_or, slice_get, Some, None, []}
use Rattle.dds_base.specs.declared.config.Config.{Config}
use Rattle.dds_base.specs.Checked.{check_refusal}
use Rattle.dds_notices.specs.declared.notice.Notice.{Notice}
use Rattle.dds_notices.specs.Listeners.{Places}
use Rattle.dds_protocol.specs.Noticing.{peer_at_end, world_ended}
use Rattle.dds_protocol.specs.Peer.{Peer, PeerStep}
use Rattle.dds_machine.specs.Watching.{Tests}
use Rattle.dds_protocol.specs.declared.event.Event.{Event}
use Rattle.dds_protocol.specs.declared.event.Output.{Output}
use Rattle.dds_machine.specs.declared.event.WorldEvent.{WorldEvent}
use Rattle.dds_machine.specs.declared.reply.Reply.{Reply}
use Rattle.dds_machine.specs.Machine.{AllTests, Step}
use Rattle.dds_protocol.specs.Meetings.{MeetsByRoster, MeetsInNetwork}
use Rattle.dds_protocol.specs.Rules.{RuledStep}
use Rattle.dds_protocol.specs.World.{WorldState, machine_of}
use Rattle.dds_protocol.specs.Roster.{Roster}
use Rattle.dds_core.specs.Kept.{PeerKept}
use Rattle.dds_core.specs.Opening.{InRosters, opening_peer}
use Rattle.dds_ends.specs.Sending.{AreMessages}
use Rattle.dds_core.specs.Sending.{SendsNothing}
use Rattle.dds_core.specs.Listening.{CoreKept, StandsFor as CoreStands, no_listeners}
use Rattle.dds_core.specs.Standing.{StandsFor as CoreStandsFor}
use Rattle.dds_core.specs.Ruling.{IsSound, KeepsRules as CoreKeepsRules}
use Rattle.dds_world.specs.WorldStanding.{Hearing, WorldKept, StandsFor}
use Rattle.dds_world.specs.Posting.{Posts}

-- how many packets were counted as unsent: those of the peer, and those that found no memory in the network
abbrev pub Counts : {hearing : Hearing} → WorldKept hearing → Output → WorldKept hearing → Type 0
Counts old output new = (lost : ℕ) × (length new.sent + lost ≡ length old.sent + length output.packets)
    × (new.unsent ≡ min (old.unsent + output.unsent + lost) (2 ^ 64 - 1))

-- where a peer sends nothing, the network sends nothing and loses nothing
abbrev pub IsQuiet : {hearing : Hearing} → WorldKept hearing → Output → WorldKept hearing → Type 0
IsQuiet old output new = SendsNothing output → (new.sent ≡ old.sent) × (new.unsent ≡ old.unsent)

-- For each state that a peer's old values stand for, and of which all that is known was claimed, the event, by which the
-- peer meets nobody but whom the roster has, is a step which follows the rules of the protocol; the new values stand for the state at its end, once listeners were told, and
-- all that is known of that was claimed.
abbrev pub StepsAt : Tests → PeerKept → ℕ → (Places → Type 0) → Event → Output → PeerKept → (Places → Type 0) → Type 0
StepsAt tests core filters AreTold event output after TheyAreTold =
    (roster : Roster) (peer : Peer) → CoreStandsFor core roster peer → peer.part.dds.watch.filters ≡ filters
    → AreTold peer.part.dds.listeners → IsSound roster peer → MeetsByRoster roster peer.number event output.reply
    → (stepped : Peer) × PeerStep roster tests peer event output stepped
    × CoreKeepsRules roster peer event output stepped
    × CoreStandsFor after roster (peer_at_end peer stepped)
    × ((peer_at_end peer stepped).part.dds.watch.filters ≡ filters)
    × TheyAreTold (peer_at_end peer stepped).part.dds.listeners × IsSound roster (peer_at_end peer stepped)

-- the peer of this index has the event, and the other peers are as they were; of its packets some are sent
pub record ActsAt {hearing : Hearing} (tests : AllTests) (old : WorldKept hearing) (index : ℕ) (event : Event)
    (reply : Reply)
    (new : WorldKept hearing) : Type 0 where
  pub core : PeerKept
  pub at : slice_get old.peers index ≡ Some core
  pub output : Output
  pub slots : hearing.Kept
  pub slots_at : slice_get old.listeners index ≡ Some slots
  pub after : PeerKept
  pub left : hearing.Kept
  pub steps : StepsAt (tests (suc index)) core (get_or old.filters index 0) (hearing.stands (suc index) slots) event
      output after (hearing.stands (suc index) left)
  pub messages : AreMessages output.packets
  pub replies : reply ≡ output.reply
  pub peers : new.peers ≡ set old.peers index after
  pub filters : new.filters ≡ old.filters
  pub listeners : new.listeners ≡ set old.listeners index left
  pub posts : Posts old.sent output.packets new.sent

-- so it is, and what it sends is counted
pub record Acts {hearing : Hearing} (tests : AllTests) (old : WorldKept hearing) (index : ℕ) (event : Event)
    (reply : Reply)
    (new : WorldKept hearing) : Type 0 where
  pub acts : ActsAt tests old index event reply new
  pub counts : Counts old acts.output new
  pub quiet : IsQuiet old acts.output new

-- the first peers of a configuration, at their opening, without filters; where there is one, the configuration is taken
pub record OpensFirst {F L : Type 0} (notices : L → List Notice) (capacity : L → ℕ) (becomes : L → Notice → L → Type 0)
    (config : Config) (count : ℕ) (kept : List (CoreKept F L)) : Type 0 where
  pub counted : length kept ≡ count
  pub each : (i : ℕ) (k : CoreKept F L) → slice_get kept i ≡ Some k
      → InRosters config (λ roster. CoreStands notices capacity becomes
      (no_listeners (opening_peer config (i + 1)).part) k roster (opening_peer config (i + 1)))
  pub none : (i : ℕ) (k : CoreKept F L) → slice_get kept i ≡ Some k → k.filtered.filters ≡ []
  pub taken : 1 ≤ count → check_refusal config.peers ≡ None

-- a step of the network's peers by the rules of the protocol, and of its machine, to one state
abbrev pub RuledSteps : {hearing : Hearing} → AllTests → WorldKept hearing → WorldEvent → Reply → WorldKept hearing
    → Type 0
RuledSteps tests old event reply new = (roster : Roster) (network : WorldState) → StandsFor old roster network
    → MeetsInNetwork roster event reply
    → (after : WorldState) × (lost : ℕ) × RuledStep roster tests network event reply lost after
    × (new.unsent ≡ min (old.unsent + lost) (2 ^ 64 - 1))
    × Step tests (length old.sent) (machine_of network) event reply (machine_of after)
    × StandsFor new roster (world_ended network event after)
