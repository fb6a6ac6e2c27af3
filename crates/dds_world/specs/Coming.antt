-- A peer that comes to a network whose peers have filters and listeners.
--
-- RTPS 2.5, 8.2 (Participant), 8.4.7 (matched_readers), 8.4.10 (matched_writers).
use Rattle.std.specs.Prelude.{◌≡◌, ℕ, ◌+◌, ◌-◌, ◌^◌, ◌==◌, nat_lt, if◌then◌else◌, List, [], ◌∷◌, ◌++◌, length, is_some, Option, Some, None}
use Rattle.std.specs.List.{list_any}
use Rattle.dds_base.specs.declared.code.Code.{Code}
use Rattle.dds_base.specs.declared.code.Code.TheVariants.{BadParameter, OutOfResources}
use Rattle.dds_base.specs.declared.config.Config.{Config}
use Rattle.dds_base.specs.declared.config.PeerConfig.{PeerConfig}
use Rattle.dds_base.specs.Checked.{check_refusal, same_prefix}
use Rattle.dds_base.specs.Refusal.{Refuses}
use Rattle.dds_notices.specs.declared.notice.Notice.{Notice}
use Rattle.dds_notices.specs.Listeners.{ByEntity}
use Rattle.dds_machine.specs.Machine.{Machine}
use Rattle.dds_machine.specs.Opening.{coming_part, machine_with_peer}
use Rattle.dds_protocol.specs.Claims.{IsNumbered}
use Rattle.dds_protocol.specs.Coming.{world_with_peer}
use Rattle.dds_protocol.specs.Peer.{Peer}
use Rattle.dds_protocol.specs.Roster.{AreGood, Roster, roster_of}
use Rattle.dds_protocol.specs.World.{WorldState}
use Rattle.dds_core.specs.Listening.{no_listeners}
use Rattle.dds_world.specs.Holding.{Held, MachineStandsFor, filters_of, kept_of}
use Rattle.dds_world.specs.WorldStanding.{StandsFor}

-- why a peer that is good by itself does not come: one that is there has its prefix, or no number is left
abbrev pub next_refusal : Roster → WorldState → PeerConfig → Option Code
next_refusal roster network p =
    if list_any (λ (q : Peer). same_prefix (roster.prefix q.number) p.prefix) network.peers then Some BadParameter
    else (if nat_lt (length network.peers) (2 ^ 32 - 1) then None else Some OutOfResources)

-- why the one peer of these does not: there are more than one
abbrev pub one_refusal : Roster → WorldState → List PeerConfig → Option Code
one_refusal roster network (p ∷ []) = next_refusal roster network p
one_refusal roster network peers = Some BadParameter

-- or they are refused
abbrev pub newcomer_refusal : Roster → WorldState → List PeerConfig → Option Code
newcomer_refusal roster network peers =
    if is_some (check_refusal peers) then check_refusal peers else one_refusal roster network peers

-- what the peers were given, once this one came under this number, without listeners
abbrev pub given_coming : {L : Type 0} → (ℕ → ByEntity L) → ℕ → PeerConfig → ℕ → ByEntity L
given_coming given number p n = if n == number then no_listeners (coming_part number p) else given n

-- The one peer of these came, under the next number, without filters and listeners; nothing is sent or counted. For each
-- machine that the old network stood for in a list of peers that has it next, the new network stands for the machine to
-- which it came; so it is of the states of its peers; and against it there was no cause.
pub record HasNewcomer {F L : Type 0} (notices : L → List Notice) (capacity : L → ℕ) (becomes : L → Notice → L → Type 0)
    (old : Held F L) (peers : List PeerConfig) (number : ℕ) (new : Held F L) : Type 0 where
  pub next : number ≡ length old.cores + 1
  pub filters : filters_of new ≡ filters_of old ++ [] ∷ []
  pub sent : new.sent ≡ old.sent
  pub unsent : new.unsent ≡ old.unsent
  pub comes : (given : ℕ → ByEntity L) (all : Config) (m : Machine) (p : PeerConfig) → peers ≡ p ∷ []
      → AreGood all.peers → IsNumbered all.peers number p
      → MachineStandsFor notices capacity becomes given old all m
      → MachineStandsFor notices capacity becomes (given_coming given number p) new all (machine_with_peer m p)
  pub rules : (given : ℕ → ByEntity L) (all : Config) (network : WorldState) (p : PeerConfig) → peers ≡ p ∷ []
      → AreGood all.peers → IsNumbered all.peers number p
      → StandsFor (kept_of notices capacity becomes given old) (roster_of all) network
      → StandsFor (kept_of notices capacity becomes (given_coming given number p) new) (roster_of all)
      (world_with_peer network p)
  pub taken : (given : ℕ → ByEntity L) (roster : Roster) (network : WorldState)
      → StandsFor (kept_of notices capacity becomes given old) roster network
      → newcomer_refusal roster network peers ≡ None

-- for each state that the network stands for, the one peer of these is refused so
abbrev pub RefusesPeer : {F L : Type 0} → (L → List Notice) → (L → ℕ) → (L → Notice → L → Type 0) → Held F L
    → List PeerConfig → Code → Type 0
RefusesPeer {F} {L} notices capacity becomes old peers code =
    (given : ℕ → ByEntity L) (roster : Roster) (network : WorldState)
    → StandsFor (kept_of notices capacity becomes given old) roster network
    → Refuses (newcomer_refusal roster network peers) code
