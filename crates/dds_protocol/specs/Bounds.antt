-- No reader's place goes past the end of a writer's list: so none acknowledges changes that were never made.
--
-- A law of this project, of RTPS 2.5, 8.4.10 (WriterProxy).
use Rattle.std.specs.Prelude.{◌≡◌, ℕ, ◌+◌, ◌≤◌, Some, List, [], ◌∷◌, length}
use Rattle.dds_base.specs.declared.config.Config.{Config}
use Rattle.dds_base.specs.declared.endpoint.Endpoint.{Endpoint}
use Rattle.dds_machine.specs.declared.event.WorldEvent.{WorldEvent}
use Rattle.dds_machine.specs.declared.event.WorldEvent.TheVariants.{Deliver, Resume}
use Rattle.dds_machine.specs.declared.reply.Move.{Move}
use Rattle.dds_machine.specs.declared.reply.Move.TheVariants.{Strange}
use Rattle.dds_machine.specs.declared.reply.Reply.{Reply}
use Rattle.dds_machine.specs.declared.reply.Reply.TheVariants.{Reported}
use Rattle.dds_machine.specs.Part.{writer_changes}
use Rattle.dds_machine.specs.Machine.{Machine, AllTests, writer_at, place_at, Step}
use Rattle.dds_machine.specs.Opening.{opening}
use Rattle.dds_machine.specs.Runs.{Run}

-- a reader's place in the list of a matched writer is at most one past the number of the last change
abbrev pub IsBounded : Machine → Type 0
IsBounded m = (reader writer : Endpoint) (place : ℕ) → place_at m reader writer ≡ Some place
    → place ≤ length (writer_changes (writer_at m writer)) + 1

-- so it is at the opening of every configuration
abbrev pub OpensBounded : Type 0
OpensBounded = (config : Config) → IsBounded (opening config)

-- no step changes that
abbrev pub StepsBounded : Type 0
StepsBounded = (tests : AllTests) (sent : ℕ) (old : Machine) (event : WorldEvent) (reply : Reply) (new : Machine)
    → IsBounded old → Step tests sent old event reply new → IsBounded new

-- so it is after every run
abbrev pub RunsBounded : Type 0
RunsBounded = (config : Config) (tests : AllTests) (events : List WorldEvent) (replies : List Reply) (last : ℕ)
    (after : Machine) → Run tests 0 (opening config) events replies last after → IsBounded after

-- none of these moves says of a reader that it acknowledged changes which were never made
abbrev pub MeetNoStranger : List Move → Type 0
MeetNoStranger [] = Unit {0}
MeetNoStranger (Strange writer reader ∷ moves) = ⊥
MeetNoStranger (m ∷ moves) = MeetNoStranger moves

-- no reply reports that
abbrev pub ReportNoStranger : List WorldEvent → List Reply → Type 0
ReportNoStranger (Deliver peer packet ∷ events) (Reported report ∷ replies) =
    MeetNoStranger report.moves × ReportNoStranger events replies
ReportNoStranger (Resume peer reader ∷ events) (Reported report ∷ replies) =
    MeetNoStranger report.moves × ReportNoStranger events replies
ReportNoStranger (event ∷ events) (reply ∷ replies) = ReportNoStranger events replies
ReportNoStranger events replies = Unit {0}

-- in no run is that reported
abbrev pub NobodyIsStrange : Type 0
NobodyIsStrange = (config : Config) (tests : AllTests) (events : List WorldEvent) (replies : List Reply) (last : ℕ)
    (after : Machine) → Run tests 0 (opening config) events replies last after → ReportNoStranger events replies
