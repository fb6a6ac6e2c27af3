-- Networks in which nobody has come or left: each place has begun, and each matched reliable reader is owed all
-- changes. While nobody comes or goes, no place begins, and the machine passes over those changes alone that a writer's
-- history had dropped.
--
-- A notion of this project, of RTPS 2.5, 8.4.7 (ReaderProxy), 8.4.10 (WriterProxy).
use Rattle.std.specs.Prelude.{◌≡◌, ◌↔◌, ◌⊎◌, ℕ, ◌<◌, ◌≤◌, true, false, Some, IsSome, List, [], ◌∷◌}
use Rattle.dds_base.specs.declared.config.Config.{Config}
use Rattle.dds_protocol.specs.Roster.{Roster}
use Rattle.dds_base.specs.declared.qos.HistoryQos.TheVariants.{KeepAll}
use Rattle.dds_base.specs.Kept.{is_dropped}
use Rattle.dds_base.specs.Matched.{is_reliable}
use Rattle.dds_base.specs.declared.endpoint.Endpoint.{Endpoint}
use Rattle.dds_machine.specs.declared.call.Call.TheVariants.{MatchReader, UnmatchReader, MatchWriter, UnmatchWriter, MeetReader, MeetWriter}
use Rattle.dds_machine.specs.declared.event.WorldEvent.{WorldEvent}
use Rattle.dds_machine.specs.declared.event.WorldEvent.TheVariants as event
use Rattle.dds_machine.specs.declared.reply.Move.{Move}
use Rattle.dds_machine.specs.declared.reply.Move.TheVariants.{Begun as HasBegun}
use Rattle.dds_machine.specs.declared.reply.Reply.{Reply}
use Rattle.dds_machine.specs.declared.reply.Reply.TheVariants.{Reported}
use Rattle.dds_machine.specs.Machine.{Machine, AllTests, AtPeer, IsRefused, Step, grounds_of, part_at, place_at, writer_at}
use Rattle.dds_machine.specs.Moves.{Grounds, DeliveryStep, ResumeStep}
use Rattle.dds_machine.specs.Noticing.{machine_ended}
use Rattle.dds_machine.specs.Numbered.{HasNumber}
use Rattle.dds_machine.specs.Opening.{opening}
use Rattle.dds_machine.specs.Runs.{Run}
use Rattle.dds_machine.specs.Part.{ReaderProxy, WriterProxy, Begun, NoLess, IsAtMost, IsBelow, acknowledged_of, history_of, owed_from, own_proxies, own_reader, row_of}
use Rattle.dds_protocol.specs.Claims.{MayPass}
use Rattle.dds_protocol.specs.InOrder.{CameInOrder}
use Rattle.dds_protocol.specs.Laws.{LosesNone}
use Rattle.dds_protocol.specs.World.{WorldState, Holds, Sound, machine_of}

-- nobody comes or goes by the event: no writer and no reader is told who is matched with it, or no longer
abbrev pub TellsNobody : WorldEvent → Type 0
TellsNobody (event.Call peer (MatchReader writer reader greeted)) = ⊥
TellsNobody (event.Call peer (UnmatchReader writer reader)) = ⊥
TellsNobody (event.Call peer (MatchWriter reader writer)) = ⊥
TellsNobody (event.Call peer (UnmatchWriter reader writer)) = ⊥
TellsNobody (event.Call peer (MeetReader writer far greeted)) = ⊥
TellsNobody (event.Call peer (MeetWriter reader far)) = ⊥
TellsNobody other = Unit {0}

-- nor by any of these
abbrev pub NobodyTold : List WorldEvent → Type 0
NobodyTold [] = Unit {0}
NobodyTold (e ∷ events) = TellsNobody e × NobodyTold events

-- Nobody has come or left: the place of each reader has begun at each writer that it knows, and that writer has a row
-- for it where it is a reliable one; each writer owes each reader of its rows its changes from the first on, and that
-- reader has a place there, from 1 on.
pub record IsClosed (m : Machine) : Type 0 where
  pub begun : (reader writer : Endpoint) (row : WriterProxy)
      → row_of (λ (p : WriterProxy). p.writer) (own_proxies (part_at m reader.peer) reader.number) writer ≡ Some row
      → row.how ≡ Begun
  pub known : (writer reader : Endpoint) → IsSome (place_at m reader writer)
      → is_reliable (own_reader (part_at m reader.peer) reader.number).qos.reliability ≡ true
      → IsSome (acknowledged_of (writer_at m writer).readers reader)
  pub owed : (writer reader : Endpoint) (row : ReaderProxy)
      → row_of (λ (p : ReaderProxy). p.reader) (writer_at m writer).readers reader ≡ Some row → row.first ≤ 1
  pub placed : (writer reader : Endpoint) → IsSome (acknowledged_of (writer_at m writer).readers reader)
      → IsAtMost 1 (place_at m reader writer)

-- of a best-effort reader what it may pass over is in every machine what was dropped, or comes before another change
abbrev pub BestEffortAsDropped : Type 0
BestEffortAsDropped = (m : Machine) (peer : ℕ) (writer : Endpoint) (reader number : ℕ)
    → is_reliable (own_reader (part_at m peer) reader).qos.reliability ≡ false
    → (grounds_of m peer).may_pass writer reader number → is_dropped (history_of (writer_at m writer)) number ≡ true

-- so it is at the opening of every configuration
abbrev pub OpensClosed : Type 0
OpensClosed = (config : Config) → IsClosed (opening config)

-- every event at which nobody comes or goes leaves it so
abbrev pub StaysClosed : Type 0
StaysClosed = (tests : AllTests) (sent : ℕ) (old : Machine) (event : WorldEvent) (reply : Reply) (new : Machine)
    → TellsNobody event → IsClosed old → Step tests sent old event reply new → IsClosed (machine_ended old event new)

-- and so does every run of such events
abbrev pub RunsClosed : Type 0
RunsClosed = (tests : AllTests) (sent : ℕ) (old : Machine) (events : List WorldEvent) (replies : List Reply) (last : ℕ)
    (new : Machine) → NobodyTold events → IsClosed old → Run tests sent old events replies last new → IsClosed new

-- none of these moves begins a place
abbrev pub BeginNone : List Move → Type 0
BeginNone [] = Unit {0}
BeginNone (HasBegun writer reader from to ∷ moves) = ⊥
BeginNone (m ∷ moves) = BeginNone moves

-- nor does one that a reply reports
abbrev pub NoneBegins : List WorldEvent → List Reply → Type 0
NoneBegins (event.Deliver peer packet ∷ events) (Reported report ∷ replies) =
    BeginNone report.moves × NoneBegins events replies
NoneBegins (event.Resume peer reader ∷ events) (Reported report ∷ replies) =
    BeginNone report.moves × NoneBegins events replies
NoneBegins (event ∷ events) (reply ∷ replies) = NoneBegins events replies
NoneBegins events replies = Unit {0}

-- so it is in every run there
abbrev pub ClosedBeginsNone : Type 0
ClosedBeginsNone = (tests : AllTests) (sent : ℕ) (old : Machine) (events : List WorldEvent) (replies : List Reply)
    (last : ℕ) (new : Machine) → NobodyTold events → IsClosed old → Run tests sent old events replies last new
    → NoneBegins events replies

-- ---- what may be passed over there

-- what moves at the peer of this number may rest on there: what may be passed over is what the writer's history has
-- dropped
abbrev pub closed_grounds_of : Machine → ℕ → Grounds
closed_grounds_of m peer = record (grounds_of m peer) {
  may_pass = λ writer reader number. is_dropped (history_of (writer_at m writer)) number ≡ true;
}

-- a step that rests on nothing else
abbrev pub ClosedStep : AllTests → ℕ → Machine → WorldEvent → Reply → Machine → Type 0
ClosedStep tests sent old (event.Deliver peer packet) reply new =
    ((1 ≤ packet) × (packet ≤ sent)
    × AtPeer old peer (λ after. DeliveryStep (closed_grounds_of old peer) (part_at old peer) reply after) new)
    ⊎ (((packet ≡ 0) ⊎ (sent < packet) ⊎ (HasNumber old.parts peer → ⊥)) × IsRefused old reply new)
ClosedStep tests sent old (event.Resume peer reader) reply new =
    AtPeer old peer (λ after. ResumeStep (closed_grounds_of old peer) (part_at old peer) reader reply after) new
    ⊎ ((HasNumber old.parts peer → ⊥) × IsRefused old reply new)
ClosedStep tests sent old other reply new = Step tests sent old other reply new

-- a run of such steps
abbrev pub ClosedRun : AllTests → ℕ → Machine → List WorldEvent → List Reply → ℕ → Machine → Type 0
ClosedRun tests sent old [] [] last new = (new ≡ old) × (last ≡ sent)
ClosedRun tests sent old (event ∷ events) (reply ∷ replies) last new =
    (mid : Machine) × (next : ℕ) × ClosedStep tests sent old event reply mid × (sent ≤ next)
    × ClosedRun tests next (machine_ended old event mid) events replies last new
ClosedRun tests sent old [] (reply ∷ replies) last new = ⊥
ClosedRun tests sent old (event ∷ events) [] last new = ⊥

-- the runs are one where nobody has come or left: what is not owed lets nothing more be passed over
abbrev pub RunsAlike : Type 0
RunsAlike = (tests : AllTests) (sent : ℕ) (old : Machine) (events : List WorldEvent) (replies : List Reply) (last : ℕ)
    (new : Machine) → NobodyTold events → IsClosed old
    → Run tests sent old events replies last new ↔ ClosedRun tests sent old events replies last new

-- no run passes over a change of a KEEP_ALL writer at a reliable reader there
abbrev pub ClosedLosesNone : Type 0
ClosedLosesNone = (tests : AllTests) (writer reader : Endpoint) (m after : Machine) (events : List WorldEvent)
    (replies : List Reply) (sent last : ℕ) → NobodyTold events → IsClosed m
    → (writer_at m writer).policy ≡ KeepAll
    → is_reliable (own_reader (part_at m reader.peer) reader.number).qos.reliability ≡ true
    → Run tests sent m events replies last after → LosesNone writer reader events replies

-- a writer owes there each reliable reader that has a place in its list all changes
abbrev pub ClosedOwesAll : Type 0
ClosedOwesAll = (m : Machine) (writer reader : Endpoint) → IsClosed m → IsSome (place_at m reader writer)
    → is_reliable (own_reader (part_at m reader.peer) reader.number).qos.reliability ≡ true
    → owed_from (writer_at m writer) reader ≤ 1

-- so the changes of each writer that keeps all come in order at each reliable reader that it is matched with, while
-- nobody comes or goes
abbrev pub ClosedInOrder : Type 0
ClosedInOrder = (config : Config) (tests : AllTests) (writer reader : Endpoint) (events : List WorldEvent)
    (replies : List Reply) (last : ℕ) (after : Machine) → NobodyTold events
    → (writer_at (opening config) writer).policy ≡ KeepAll
    → is_reliable (own_reader (part_at (opening config) reader.peer) reader.number).qos.reliability ≡ true
    → IsSome (place_at (opening config) reader writer)
    → Run tests 0 (opening config) events replies last after
    → CameInOrder after writer reader

-- what packets claim there of a change that a reader of the writer's rows may pass over: it is dropped, or that reader
-- is past it
abbrev pub ClosedClaims : Type 0
ClosedClaims = (m : Machine) (writer reader : Endpoint) (number : ℕ) → IsClosed m
    → IsSome (acknowledged_of (writer_at m writer).readers reader) → 1 ≤ number → Holds m (MayPass writer reader number)
    → (is_dropped (history_of (writer_at m writer)) number ≡ true) ⊎ IsBelow number (place_at m reader writer)

-- and no reader has acknowledged more than it has
abbrev pub ClosedAcknowledges : Type 0
ClosedAcknowledges = (roster : Roster) (world : WorldState) (writer reader : Endpoint) → Sound roster world
    → IsClosed (machine_of world)
    → NoLess (acknowledged_of (writer_at (machine_of world) writer).readers reader)
    (place_at (machine_of world) reader writer)
