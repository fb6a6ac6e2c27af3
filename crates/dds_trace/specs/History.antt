-- Histories of one peer: what it did, event by event, from its opening.
--
-- Traces are this project's own. Listeners are told at the end of an event (DDS 1.4, 2.2.4.3).
use Rattle.std.specs.Prelude.{◌≡◌, ℕ, Bool, List, [], ◌∷◌, length, map, Option, None, Some}
use Rattle.dds_base.specs.declared.config.Config.{Config}
use Rattle.dds_base.specs.declared.key.Key.{Key}
use Rattle.dds_conditions.specs.Filtered.{tests_of}
use Rattle.dds_notices.specs.declared.notice.Notice.{Notice}
use Rattle.dds_notices.specs.Listeners.{ByEntity, Place, Places}
use Rattle.dds_protocol.specs.declared.event.Event.{Event}
use Rattle.dds_protocol.specs.declared.event.Output.{Output}
use Rattle.dds_protocol.specs.Noticing.{peer_at_end}
use Rattle.dds_protocol.specs.Peer.{Peer, PeerStep}
use Rattle.dds_protocol.specs.Meetings.{MeetsByRoster}
use Rattle.dds_protocol.specs.Roster.{AreGood, Roster}
use Rattle.dds_machine.specs.Watching.{Tests}
use Rattle.dds_core.specs.Listening.{CoreKept, StandsFor}
use Rattle.dds_core.specs.Opening.{InRosters, opening_peer}
use Rattle.dds_core.specs.Ruling.{IsSound, KeepsRules}
use Rattle.dds_trace.specs.declared.trace.Entry.{Entry}

-- one event of a peer to its end, at which listeners are told; it follows the rules of the protocol, which say what is
-- sent
pub record Happens (roster : Roster) (tests : Tests) (old : Peer) (event : Event) (output : Output)
    (new : Peer) : Type 0 where
  pub stepped : Peer
  pub step : PeerStep roster tests old event output stepped
  pub rules : KeepsRules roster old event output stepped
  pub ended : new ≡ peer_at_end old stepped

-- events with these outputs lead from the one state to the other
abbrev pub IsHistory : Roster → Tests → Peer → List Entry → Peer → Type 0
IsHistory roster tests old [] new = old ≡ new
IsHistory roster tests old (e ∷ es) new =
    (mid : Peer) × Happens roster tests old e.event e.output mid × IsHistory roster tests mid es new

-- a place at which nothing was told yet
abbrev pub emptied_place : Option Place → Option Place
emptied_place None = None
emptied_place (Some place) = Some (record { mask = place.mask; room = place.room; sent = [] })

-- the places of a peer's listeners, nothing told yet
abbrev pub emptied : Places → Places
emptied places = record {
  participant = emptied_place places.participant;
  writers = map emptied_place places.writers;
  readers = map emptied_place places.readers;
}

-- the peer of this number at its opening, with so many filters and these places of listeners
abbrev pub opened : Config → ℕ → ℕ → Places → Peer
opened config number filters places = record (opening_peer config number) {
  part = record (opening_peer config number).part {
    dds = record (opening_peer config number).part.dds {
      watch = record (opening_peer config number).part.dds.watch { filters = filters };
      listeners = places;
    };
  };
}

-- by these entries the peer of this number meets nobody but whom the roster has
abbrev pub AllMeetBy : Roster → ℕ → List Entry → Type 0
AllMeetBy roster number [] = Unit {0}
AllMeetBy roster number (e ∷ es) =
    MeetsByRoster roster number e.event e.output.reply × AllMeetBy roster number es

-- The entries are a history of the core in this roster: they lead from its opening, with its filters and the listeners
-- that it was given, to a state that it stands for, of which all that is known was claimed.
pub record IsHistoryIn {F L : Type 0} (meaning : F → Key → List ℕ → Bool) (notices : L → List Notice)
    (capacity : L → ℕ) (becomes : L → Notice → L → Type 0) (given : ByEntity L) (config : Config) (roster : Roster)
    (number : ℕ) (entries : List Entry) (core : CoreKept F L) : Type 0 where
  pub peer : Peer
  pub is_number : peer.number ≡ number
  pub history : IsHistory roster (tests_of meaning core.filtered.filters)
      (opened config number (length core.filtered.filters) (emptied peer.part.dds.listeners)) entries peer
  pub stands : StandsFor notices capacity becomes given core roster peer
  pub sound : IsSound roster peer

-- The entries are a history of the core: in each roster in which the peers of the configuration come first, and which has
-- whom the core meets by them. Where the configuration names whoever is met, that is its own; and whoever it was, in some
-- roster the core stands for a state of which all that is known was claimed.
pub record IsHistoryOf {F L : Type 0} (meaning : F → Key → List ℕ → Bool) (notices : L → List Notice)
    (capacity : L → ℕ) (becomes : L → Notice → L → Type 0) (given : ByEntity L) (config : Config) (number : ℕ)
    (entries : List Entry) (core : CoreKept F L) : Type 0 where
  pub good : AreGood config.peers
  pub in_rosters : InRosters config (λ roster. AllMeetBy roster number entries
      → IsHistoryIn meaning notices capacity becomes given config roster number entries core)
  pub roster : Roster
  pub peer : Peer
  pub stands : StandsFor notices capacity becomes given core roster peer
  pub sound : IsSound roster peer

-- an entry of these parts
abbrev pub entry_of : ℕ → Event → Output → Entry
entry_of seat event output = record { seat = seat; event = event; output = output }
