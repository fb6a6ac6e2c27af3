-- What a writer owes a reader never begins earlier than it did, whoever is told that the two are matched, or no longer.
--
-- A law of this project, of RTPS 2.5, 8.4.7.4 (matched_reader_add, matched_reader_remove), 8.4.10.3
-- (matched_writer_add, matched_writer_remove); DDS 1.4, 2.2.3 (DURABILITY: VOLATILE).
use Rattle.std.specs.Prelude.{ℕ, ◌≤◌, List}
use Rattle.dds_base.specs.declared.endpoint.Endpoint.{Endpoint}
use Rattle.dds_machine.specs.declared.event.WorldEvent.{WorldEvent}
use Rattle.dds_machine.specs.declared.reply.Reply.{Reply}
use Rattle.dds_machine.specs.Machine.{Machine, AllTests, Step, writer_at}
use Rattle.dds_machine.specs.Noticing.{machine_ended}
use Rattle.dds_machine.specs.Part.{owed_from}
use Rattle.dds_machine.specs.Runs.{Run}

-- what each writer owes each reader begins no earlier
abbrev pub OwesNoMore : Machine → Machine → Type 0
OwesNoMore old new = (writer reader : Endpoint)
    → owed_from (writer_at old writer) reader ≤ owed_from (writer_at new writer) reader

-- so it is at the end of an event ..
abbrev pub StepsOweNoMore : Type 0
StepsOweNoMore = (tests : AllTests) (sent : ℕ) (old : Machine) (event : WorldEvent) (reply : Reply) (new : Machine)
    → Step tests sent old event reply new → OwesNoMore old (machine_ended old event new)

-- .. and of a run
abbrev pub RunsOweNoMore : Type 0
RunsOweNoMore = (tests : AllTests) (sent : ℕ) (old : Machine) (events : List WorldEvent) (replies : List Reply)
    (last : ℕ) (new : Machine) → Run tests sent old events replies last new → OwesNoMore old new
