-- One round of repair, for a writer of a network and a reader that it is matched with: a tick, the writer's
-- HEARTBEAT, the reader's ACKNACK, and its answers, each delivered once.
--
-- RTPS 2.5, 8.4.9 (reliable StatefulWriter), 8.4.12 (reliable StatefulReader).
use Rattle.std.specs.Prelude.{◌≡◌, ◌⊎◌, ◌&&◌, ℕ, ◌+◌, ◌-◌, ◌^◌, ◌<◌, ◌≤◌, min, nat_lt, if◌then◌else◌, Bool, true, false, not, List, [], ◌∷◌, length, map, is_some, Option, Some, None}
use Rattle.std.specs.List.{list_all, list_any}
use Rattle.dds_base.specs.declared.config.Config.{Config}
use Rattle.dds_base.specs.declared.code.Code.{Code}
use Rattle.dds_base.specs.declared.code.Code.TheVariants.{BadParameter}
use Rattle.dds_protocol.specs.Roster.{Roster}
use Rattle.dds_base.specs.Bounds.{max_count}
use Rattle.dds_base.specs.Kept.{numbers_from}
use Rattle.dds_base.specs.Refusal.{Refuses}
use Rattle.rtps_wire.specs.declared.seek.Sought.{Sought}
use Rattle.rtps_wire.specs.declared.seek.Sought.TheVariants as sought
use Rattle.rtps_wire.specs.Sought.{Has}
use Rattle.dds_base.specs.declared.endpoint.Endpoint.{Endpoint}
use Rattle.dds_protocol.specs.declared.event.Packet.{Packet}
use Rattle.dds_machine.specs.declared.event.WorldEvent.{WorldEvent}
use Rattle.dds_machine.specs.declared.event.WorldEvent.TheVariants.{Tick, Deliver}
use Rattle.dds_protocol.specs.Claims.{IsNumbered}
use Rattle.dds_machine.specs.declared.reply.Reply.{Reply}
use Rattle.dds_machine.specs.declared.reply.Reply.TheVariants.{Done, Reported}
use Rattle.dds_protocol.specs.Fresh.{heartbeats_used_at, acknacks_used_at}
use Rattle.dds_machine.specs.Machine.{Machine, AllTests, part_at, place_at, writer_at}
use Rattle.dds_machine.specs.Part.{Waiting, acknowledged_of, how_of, is_attached, is_reader_behind, own_proxies, owed_from, writer_changes}
use Rattle.dds_protocol.specs.Closed.{IsClosed}
use Rattle.dds_protocol.specs.Greetings.{NobodyIsSilent}
use Rattle.dds_protocol.specs.Repair.{HasCaughtUp}
use Rattle.dds_protocol.specs.Rules.{RuledRun}
use Rattle.dds_machine.specs.Runs.{Run}
use Rattle.dds_protocol.specs.DueMessages.{reader_entity, writer_entity}
use Rattle.dds_protocol.specs.World.{WorldState, peer_at, machine_of}
use Rattle.dds_world.specs.declared.round.Round.{Round}
use Rattle.dds_world.specs.declared.round.RoundReply.{RoundReply}
use Rattle.dds_world.specs.WorldStanding.{Hearing, WorldKept, StandsFor, KeepsRulesAlone}

-- the two are matched at both sides: the writer has a row of the reader, and the reader is matched with the writer
abbrev pub is_pair_matched : Machine → Endpoint → Endpoint → Bool
is_pair_matched m writer reader =
    is_some (acknowledged_of (writer_at m writer).readers reader)
    && is_attached (how_of (own_proxies (part_at m reader.peer) reader.number) writer)

-- why there is no round: the two are not matched
abbrev pub round_refusal : Machine → Endpoint → Endpoint → Option Code
round_refusal m writer reader = if is_pair_matched m writer reader then None else Some BadParameter

-- for each state that the network stands for, a round is refused so
abbrev pub RefusesRound : {hearing : Hearing} → WorldKept hearing → Endpoint → Endpoint → Code → Type 0
RefusesRound kept writer reader code =
    (roster : Roster) (network : WorldState) → StandsFor kept roster network
    → Refuses (round_refusal (machine_of network) writer reader) code

-- for each state that the network stands for, the two are matched
abbrev pub AreMatched : {hearing : Hearing} → WorldKept hearing → Endpoint → Endpoint → Type 0
AreMatched kept writer reader =
    (roster : Roster) (network : WorldState) → StandsFor kept roster network
    → round_refusal (machine_of network) writer reader ≡ None

-- one event, as a step of the network answers it, with the counts of packets sent and not sent after it
pub record IsStep {hearing : Hearing} (tests : AllTests) (old : WorldKept hearing) (event : WorldEvent)
    (reply : RoundReply)
    (new : WorldKept hearing) : Type 0 where
  pub rules : KeepsRulesAlone tests old event reply.reply new
  pub sent : reply.sent ≡ length new.sent
  pub unsent : reply.unsent ≡ new.unsent

-- the same of events one after the other
abbrev pub AreSteps : {hearing : Hearing} → AllTests → WorldKept hearing → List WorldEvent → List RoundReply
    → WorldKept hearing → Type 0
AreSteps tests old [] [] new = new ≡ old
AreSteps {hearing} tests old (event ∷ events) (reply ∷ replies) new =
    (mid : WorldKept hearing) × IsStep tests old event reply mid × AreSteps tests mid events replies new
AreSteps tests old [] (reply ∷ replies) new = ⊥
AreSteps tests old (event ∷ events) [] new = ⊥

-- the packet is sent to this peer, and is a message with such a submessage
abbrev pub IsTo : ℕ → Sought → Packet → Type 0
IsTo peer wanted packet = (packet.to ≡ peer) × Has packet.bytes wanted

-- no packet is such a one whose number lies above this one and is at most the other
abbrev pub HasNone : (Packet → Type 0) → List Packet → ℕ → ℕ → Type 0
HasNone Is sent from to = (k : ℕ) (packet : Packet) → from < k → k ≤ to → IsNumbered sent k packet → Is packet → ⊥

-- the packet of this number is the first such one among those
pub record IsFirst (Is : Packet → Type 0) (sent : List Packet) (from to k : ℕ) : Type 0 where
  pub above : from < k
  pub within : k ≤ to
  pub packet : Packet
  pub at : IsNumbered sent k packet
  pub is : Is packet
  pub first : HasNone Is sent from (k - 1)

-- the HEARTBEAT of the writer, by its entity id
abbrev pub heartbeat_of : Roster → Endpoint → Sought
heartbeat_of roster writer = sought.Heartbeat (writer_entity roster writer.peer writer.number)

-- the ACKNACK of the reader to the writer, by their entity ids
abbrev pub acknack_of : Roster → Endpoint → Endpoint → Sought
acknack_of roster writer reader =
    sought.AckNack (reader_entity roster reader.peer reader.number) (writer_entity roster writer.peer writer.number)

-- the answers: all packets whose numbers lie above this one and are at most the other, up to 256 of them, at this peer
abbrev pub answers_at : ℕ → ℕ → ℕ → List WorldEvent
answers_at peer from to = map (λ k. Deliver peer k) (numbers_from (from + 1) (min 256 (to - from)))

-- After the HEARTBEAT: of the packets that its delivery sent to the writer's peer, the first with the ACKNACK is
-- delivered there, and then its answers at the reader's peer; if there is none, the round ends.
abbrev pub AfterHeartbeat : Roster → Endpoint → Endpoint → List Packet → ℕ → ℕ → List WorldEvent → List RoundReply
    → Type 0
AfterHeartbeat roster writer reader sent from to [] [] =
    HasNone (IsTo writer.peer (acknack_of roster writer reader)) sent from to
AfterHeartbeat roster writer reader sent from to (Deliver peer k ∷ events) (answered ∷ replies) =
    (peer ≡ writer.peer) × IsFirst (IsTo writer.peer (acknack_of roster writer reader)) sent from to k
    × (events ≡ answers_at reader.peer to answered.sent)
AfterHeartbeat roster writer reader sent from to events replies = ⊥

-- After the tick: of the packets that it sent to the reader's peer, the first with a HEARTBEAT of the writer is
-- delivered there; if there is none, the round ends.
abbrev pub AfterTick : Roster → Endpoint → Endpoint → List Packet → ℕ → ℕ → List WorldEvent → List RoundReply → Type 0
AfterTick roster writer reader sent from to [] [] = HasNone (IsTo reader.peer (heartbeat_of roster writer)) sent from to
AfterTick roster writer reader sent from to (Deliver peer k ∷ events) (heard ∷ replies) =
    (peer ≡ reader.peer) × IsFirst (IsTo reader.peer (heartbeat_of roster writer)) sent from to k
    × AfterHeartbeat roster writer reader sent to heard.sent events replies
AfterTick roster writer reader sent from to events replies = ⊥

-- the events of a round, by whose end these packets were sent: first the writer's peer ticks, at its own moment
abbrev pub IsRound : Roster → WorldState → Endpoint → Endpoint → List Packet → List WorldEvent → List RoundReply
    → Type 0
IsRound roster network writer reader sent (Tick peer now ∷ events) (ticked ∷ replies) =
    (peer ≡ writer.peer) × (now ≡ (part_at (machine_of network) writer.peer).dds.moment)
    × AfterTick roster writer reader sent (length network.sent) ticked.sent events replies
IsRound roster network writer reader sent events replies = ⊥

-- memory was found for all of what this answers
abbrev pub is_whole : Reply → Bool
is_whole Done = true
is_whole (Reported report) = not (is_some report.refused)
is_whole other = false

-- memory was found for all of what these answer
abbrev pub are_whole : List RoundReply → Bool
are_whole replies = list_all (λ (r : RoundReply). is_whole r.reply) replies

-- one of these counts more packets as unsent than so many
abbrev pub has_unsent : ℕ → List RoundReply → Bool
has_unsent before replies = list_any (λ (r : RoundReply). nat_lt before r.unsent) replies

-- What may keep a round from its end, each shown by its answer: a reply that lacked memory; packets that were not sent,
-- or a count of those that stood at its greatest value; one reply though the reader was behind, which hears nothing, as
-- its writer has no count left for a HEARTBEAT; or two, as the reader has none for an ACKNACK.
abbrev pub IsHindered : WorldState → Endpoint → Endpoint → Round → Type 0
IsHindered network writer reader answer =
    (are_whole answer.replies ≡ false)
    ⊎ (has_unsent answer.unsent_before answer.replies ≡ true) ⊎ (2 ^ 64 - 1 ≤ answer.unsent_before)
    ⊎ ((length answer.replies ≡ 1) × (answer.was_behind ≡ true) × (max_count ≤ heartbeats_used_at network writer))
    ⊎ ((length answer.replies ≡ 2) × (max_count ≤ acknacks_used_at network writer reader))

-- A round of a silent reader, which was greeted and has yet to answer, only lets it answer. And where ends come and go,
-- no HEARTBEAT may be due, as the reader is not behind: the writer owes it no change that it has made, or its place
-- waits.
abbrev pub IsExcused : WorldState → Endpoint → Endpoint → Type 0
IsExcused network writer reader =
    (((peer_at network writer.peer).known.answered writer.number reader).silent ≡ true)
    ⊎ ((is_reader_behind (writer_at (machine_of network) writer) reader ≡ false)
    × ((length (writer_changes (writer_at (machine_of network) writer))
    < owed_from (writer_at (machine_of network) writer) reader)
    ⊎ (how_of (own_proxies (part_at (machine_of network) reader.peer) reader.number) writer ≡ Waiting)))

-- the replies alone, without the counts of packets beside them
abbrev pub replies_of : List RoundReply → List Reply
replies_of replies = map (λ (r : RoundReply). r.reply) replies

-- A round, from one state that the old network stands for: the events are those of a round, and the replies a run over
-- them by the rules of the protocol, to a state that the new network stands for. The answer says
-- how the pair stood before it, and the reader's place after it. There the reader has gone on by 256 numbers, or to the
-- end of the writer's list, or to a change that has no room, and the writer knows of all that the reader had before,
-- unless something hindered the round, or, where somebody is silent, or has come or left, something else excuses it.
pub record RoundFrom {hearing : Hearing} (tests : AllTests) (roster : Roster) (network : WorldState)
    (old : WorldKept hearing)
    (writer reader : Endpoint)
    (events : List WorldEvent) (answer : Round) (new : WorldKept hearing) : Type 0 where
  pub is_round : IsRound roster network writer reader new.sent events answer.replies
  pub after : WorldState
  pub run : RuledRun roster tests network old.unsent events (replies_of answer.replies) after new.unsent
  pub stands : StandsFor new roster after
  pub was_behind : answer.was_behind ≡ is_reader_behind (writer_at (machine_of network) writer) reader
  pub unsent_before : answer.unsent_before ≡ old.unsent
  pub last : answer.last ≡ length (writer_changes (writer_at (machine_of network) writer))
  pub from : place_at (machine_of network) reader writer ≡ Some answer.from
  pub to : place_at (machine_of after) reader writer ≡ Some answer.to
  pub caught_up : IsHindered network writer reader answer ⊎ IsExcused network writer reader
      ⊎ HasCaughtUp after writer reader answer.from answer.last
  pub closed : IsClosed (machine_of network) → NobodyIsSilent network
      → IsHindered network writer reader answer ⊎ HasCaughtUp after writer reader answer.from answer.last

-- One round: each reply is that of a step of the network, with the counts as they stood after it; and from each state
-- that the old network stands for it is a round.
pub record Rounds {hearing : Hearing} (tests : AllTests) (old : WorldKept hearing) (writer reader : Endpoint)
    (answer : Round)
    (new : WorldKept hearing) : Type 0 where
  pub events : List WorldEvent
  pub steps : AreSteps tests old events answer.replies new
  pub round : (roster : Roster) (network : WorldState) → StandsFor old roster network
      → RoundFrom tests roster network old writer reader events answer new

-- For each machine for which what is kept stood, the replies of a round are a run of it, to one for which it then
-- stands; and the answer says the reader's place before it and after it, and the writer's last number before it.
pub record RoundRuns {X : Type 0} (StandsFor : X → Config → Machine → Type 0) (tests : AllTests) (sent : ℕ) (old : X)
    (writer reader : Endpoint) (answer : Round) (last : ℕ) (new : X) : Type 0 where
  pub events : List WorldEvent
  pub runs : (config : Config) (m : Machine) → StandsFor old config m
      → (after : Machine) × Run tests sent m events (replies_of answer.replies) last after
      × StandsFor new config after
      × (place_at m reader writer ≡ Some answer.from) × (place_at after reader writer ≡ Some answer.to)
      × (answer.last ≡ length (writer_changes (writer_at m writer)))
