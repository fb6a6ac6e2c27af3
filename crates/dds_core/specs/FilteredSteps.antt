-- What an event does to a peer with filters, and a filter more. Inner functions alone cite this: nothing here has to
-- be believed.
--
-- DDS 1.4, 2.2.2.5 (QueryCondition).
use Rattle.std.specs.Prelude.{◌≡◌, ℕ, ◌+◌, [], ◌∷◌, ◌++◌, length, None}
use Rattle.dds_base.specs.declared.code.Code.{Code}
use Rattle.dds_protocol.specs.Roster.{Roster}
use Rattle.dds_base.specs.Refusal.{Refuses}
use Rattle.dds_conditions.specs.Watched.{filter_refusal}
use Rattle.dds_protocol.specs.declared.event.Event.{Event}
use Rattle.dds_protocol.specs.declared.event.Output.{Output}
use Rattle.dds_protocol.specs.Filters.{peer_with_filter}
use Rattle.dds_protocol.specs.Meetings.{MeetsByRoster}
use Rattle.dds_protocol.specs.Peer.{Peer, PeerStep}
use Rattle.dds_machine.specs.Watching.{Tests}
use Rattle.dds_core.specs.Ruling.{IsSound, KeepsRules}
use Rattle.dds_core.specs.Filtering.{FilteredKept, StandsFor}
use Rattle.dds_core.specs.Somewhere.{Somewhere}

-- For each state that the old values stand for, and of which all that is known was claimed, the event, by which the peer
-- meets nobody but whom the roster has, is a step by what the filters mean to one that the new values stand for, and of
-- which all that is known was claimed; it follows the rules of the protocol. Some roster has whom it meets. The filters
-- stay.
pub record Steps {F : Type 0} (tests : Tests) (old : FilteredKept F) (event : Event) (output : Output)
    (new : FilteredKept F) : Type 0 where
  pub step : (roster : Roster) (peer : Peer) → StandsFor old roster peer → IsSound roster peer
      → MeetsByRoster roster peer.number event output.reply
      → (after : Peer) × PeerStep roster tests peer event output after × StandsFor new roster after
      × IsSound roster after
      × KeepsRules roster peer event output after
  pub meets : (roster : Roster) (peer : Peer) → StandsFor old roster peer → IsSound roster peer
      → Somewhere (StandsFor old) peer event output.reply
  pub filters : new.filters ≡ old.filters

-- The filter is the last one. For each state that the old values stand for there is a number for it, and it is this
-- one; the new values stand for that state with one filter more, and nothing else; and what it knows was claimed, if it
-- was before.
pub record Adds {F : Type 0} (old : FilteredKept F) (filter : F) (number : ℕ) (new : FilteredKept F) : Type 0 where
  pub filters : new.filters ≡ old.filters ++ filter ∷ []
  pub adds : (roster : Roster) (peer : Peer) → StandsFor old roster peer
      → (filter_refusal peer.part.dds.watch ≡ None) × (number ≡ length old.filters + 1)
      × StandsFor new roster (peer_with_filter peer)
      × (IsSound roster peer → IsSound roster (peer_with_filter peer))

-- for each state that the old values stand for, a filter is refused so: for want of a number, or else of memory
abbrev pub RefusesFilter : {F : Type 0} → FilteredKept F → Code → Type 0
RefusesFilter old code =
    (roster : Roster) (peer : Peer) → StandsFor old roster peer → Refuses (filter_refusal peer.part.dds.watch) code
