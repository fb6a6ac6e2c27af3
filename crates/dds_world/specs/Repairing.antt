-- The stages of a round, by what a network keeps. Inner functions alone cite this: nothing here has to be believed.
--
-- RTPS 2.5, 8.4.9 (reliable StatefulWriter), 8.4.12 (reliable StatefulReader).
use Rattle.std.specs.Prelude.{◌≡◌, ◌⊎◌, ℕ, Bool, List, [], ◌∷◌, ◌++◌, length, IsSome, None}
use Rattle.dds_protocol.specs.Roster.{Roster}
use Rattle.dds_base.specs.declared.key.Key.{Key}
use Rattle.dds_notices.specs.declared.notice.Notice.{Notice}
use Rattle.dds_notices.specs.Listeners.{ByEntity}
use Rattle.rtps_wire.specs.declared.seek.Sought.TheVariants as sought
use Rattle.dds_base.specs.declared.endpoint.Endpoint.{Endpoint}
use Rattle.dds_protocol.specs.declared.event.Packet.{Packet}
use Rattle.dds_machine.specs.declared.event.WorldEvent.{WorldEvent}
use Rattle.dds_machine.specs.declared.event.WorldEvent.TheVariants.{Deliver}
use Rattle.dds_machine.specs.Machine.{part_at, writer_at, AllTests}
use Rattle.dds_machine.specs.Part.{acknowledged_of, is_reader_behind, writer_changes}
use Rattle.dds_protocol.specs.DueMessages.{reader_entity, writer_entity}
use Rattle.dds_protocol.specs.World.{WorldState, machine_of}
use Rattle.dds_world.specs.declared.round.Matched.{Matched}
use Rattle.dds_world.specs.declared.round.RoundReply.{RoundReply}
use Rattle.dds_world.specs.Holding.{Held, heard, kept_of, tests_in}
use Rattle.dds_world.specs.Round.{IsStep, AreSteps, IsTo, HasNone, IsFirst, answers_at}
use Rattle.dds_world.specs.WorldStanding.{Hearing, WorldKept, StandsFor}

-- the writer is matched with the reader, by these entity ids, the reader is behind exactly so, the writer has made so many changes, and
-- the moment is that of its peer
pub record Knows (roster : Roster) (network : WorldState) (m : Matched) : Type 0 where
  pub matched : IsSome (acknowledged_of (writer_at (machine_of network) m.writer).readers m.reader)
  pub writer : m.pair.writer ≡ writer_entity roster m.writer.peer m.writer.number
  pub reader : m.pair.reader ≡ reader_entity roster m.reader.peer m.reader.number
  pub behind : m.pair.is_behind ≡ is_reader_behind (writer_at (machine_of network) m.writer) m.reader
  pub last : m.pair.last ≡ length (writer_changes (writer_at (machine_of network) m.writer))
  pub moment : m.moment ≡ (part_at (machine_of network) m.writer.peer).dds.moment

-- so it is for each state that the network stands for
abbrev pub IsKnown : {hearing : Hearing} → WorldKept hearing → Matched → Type 0
IsKnown kept m = (roster : Roster) (network : WorldState) → StandsFor kept roster network → Knows roster network m

-- for each state that the network stands for, the writer is not matched with the reader
abbrev pub NotMatched : {hearing : Hearing} → WorldKept hearing → Endpoint → Endpoint → Type 0
NotMatched kept writer reader =
    (roster : Roster) (network : WorldState) → StandsFor kept roster network
    → acknowledged_of (writer_at (machine_of network) writer).readers reader ≡ None

-- the first such packet with a number above this one is delivered at this peer, and it goes on so; or there is none
abbrev pub Stage : {hearing : Hearing} → AllTests → (Packet → Type 0) → ℕ → ℕ
    → (WorldKept hearing → List WorldEvent → List RoundReply → WorldKept hearing → Type 0) → WorldKept hearing → List WorldEvent
    → List RoundReply → WorldKept hearing → Type 0
Stage {hearing} tests Is from peer Next old events replies new =
    ((events ≡ []) × (replies ≡ []) × (new ≡ old) × HasNone Is old.sent from (length old.sent))
    ⊎ ((k : ℕ) × (reply : RoundReply) × (mid : WorldKept hearing) × (later : List WorldEvent) × (rest : List RoundReply)
    × IsFirst Is old.sent from (length old.sent) k × IsStep tests old (Deliver peer k) reply mid
    × (events ≡ Deliver peer k ∷ later) × (replies ≡ reply ∷ rest) × Next mid later rest new)

-- the answers, at this peer, of the ACKNACK that was delivered when so many packets had been sent
abbrev pub Answering : {hearing : Hearing} → AllTests → ℕ → ℕ → WorldKept hearing → List WorldEvent
    → List RoundReply → WorldKept hearing → Type 0
Answering tests peer from old events replies new =
    (events ≡ answers_at peer from (length old.sent)) × AreSteps tests old events replies new

-- the ACKNACK, if one was sent since so many packets had been, and its answers
abbrev pub Acknowledging : {hearing : Hearing} → AllTests → Matched → ℕ → WorldKept hearing → List WorldEvent
    → List RoundReply → WorldKept hearing → Type 0
Acknowledging tests m from old events replies new =
    Stage tests (IsTo m.writer.peer (sought.AckNack m.pair.reader m.pair.writer)) from m.writer.peer
    (Answering tests m.reader.peer (length old.sent)) old events replies new

-- the HEARTBEAT, if one was sent since so many packets had been, and what follows
abbrev pub Beating : {hearing : Hearing} → AllTests → Matched → ℕ → WorldKept hearing → List WorldEvent
    → List RoundReply → WorldKept hearing → Type 0
Beating tests m from old events replies new =
    Stage tests (IsTo m.reader.peer (sought.Heartbeat m.pair.writer)) from m.reader.peer
    (Acknowledging tests m (length old.sent)) old events replies new

-- so it is with the replies that are added to these
abbrev pub Adds : {hearing : Hearing}
    → (WorldKept hearing → List WorldEvent → List RoundReply → WorldKept hearing → Type 0) → WorldKept hearing
    → List RoundReply
    → WorldKept hearing → List RoundReply → Type 0
Adds Does old before new after =
    (events : List WorldEvent) × (added : List RoundReply) × (after ≡ before ++ added) × Does old events added new

-- so it is whatever listeners the peers were given
abbrev pub AddsIn : {F L : Type 0} → (L → List Notice) → (L → ℕ) → (L → Notice → L → Type 0)
    → ((hearing : Hearing) → WorldKept hearing → List WorldEvent → List RoundReply → WorldKept hearing → Type 0)
    → Held F L → List RoundReply → Held F L → List RoundReply → Type 0
AddsIn {F} {L} notices capacity becomes Does old before new after =
    (given : ℕ → ByEntity L) → Adds (Does (heard notices capacity becomes given))
    (kept_of notices capacity becomes given old) before (kept_of notices capacity becomes given new) after

-- one event, as a step of the network answers it, whatever listeners the peers were given
abbrev pub IsStepIn : {F L : Type 0} → (F → Key → List ℕ → Bool) → (L → List Notice) → (L → ℕ)
    → (L → Notice → L → Type 0) → Held F L → WorldEvent → RoundReply → Held F L → Type 0
IsStepIn {F} {L} meaning notices capacity becomes old event reply new =
    (given : ℕ → ByEntity L) → IsStep (tests_in meaning old) (kept_of notices capacity becomes given old) event reply
    (kept_of notices capacity becomes given new)
