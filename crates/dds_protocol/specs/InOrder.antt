-- The changes that came at a reader are the first ones of the writer's list.
--
-- A law of this project, of DDS 1.4, 2.2.3 (RELIABILITY; HISTORY: KEEP_ALL) and RTPS 2.5, 8.2 (HistoryCache,
-- add_change).
use Rattle.std.specs.Prelude.{◌≡◌, ℕ, ◌+◌, ◌≤◌, ◌==◌, true, if◌then◌else◌, Some, IsSome, List, [], ◌∷◌, ◌++◌, length}
use Rattle.dds_base.specs.declared.change.Change.{Change}
use Rattle.dds_base.specs.declared.config.Config.{Config}
use Rattle.dds_base.specs.declared.happening.Happening.{Happening}
use Rattle.dds_base.specs.declared.happening.Happening.TheVariants.{Came}
use Rattle.dds_base.specs.declared.qos.HistoryQos.TheVariants.{KeepAll}
use Rattle.dds_base.specs.Matched.{is_reliable}
use Rattle.dds_base.specs.declared.endpoint.Endpoint.{Endpoint}
use Rattle.dds_machine.specs.declared.event.WorldEvent.{WorldEvent}
use Rattle.dds_machine.specs.declared.reply.Reply.{Reply}
use Rattle.dds_machine.specs.Part.{own_proxies, own_reader, owed_from, publication_among, writer_changes}
use Rattle.dds_machine.specs.Machine.{Machine, AllTests, part_at, writer_at, place_at}
use Rattle.dds_machine.specs.Opening.{opening}
use Rattle.dds_machine.specs.Runs.{Run}

-- the changes that came from the writer of this publication handle, in the order in which they came
abbrev pub came_from : ℕ → List Happening → List Change
came_from publication [] = []
came_from publication (Came arrival ∷ h) =
    if arrival.writer == publication then came_from publication h ++ arrival.change ∷ [] else came_from publication h
came_from publication (_ ∷ h) = came_from publication h

-- what came at a reader from a matched writer are the first changes of the writer's list, as many as lie before the
-- reader's place
pub record CameInOrder (m : Machine) (writer reader : Endpoint) : Type 0 where
  pub publication : ℕ
  pub matched : publication_among (own_proxies (part_at m reader.peer) reader.number) writer ≡ Some publication
  pub came : List Change
  pub came_at : came ≡ came_from publication (own_reader (part_at m reader.peer) reader.number).happened
  pub rest : List Change
  pub first : writer_changes (writer_at m writer) ≡ came ++ rest
  pub place : place_at m reader writer ≡ Some (length came + 1)

-- After every run, so it is of each writer that keeps all and each reliable reader that it was matched with at the
-- opening, where it owes it all: it was told of the reader before its first change, and of no parting after it.
abbrev pub ChangesComeInOrder : Type 0
ChangesComeInOrder = (config : Config) (tests : AllTests) (writer reader : Endpoint) (events : List WorldEvent)
    (replies : List Reply) (last : ℕ) (after : Machine)
    → (writer_at (opening config) writer).policy ≡ KeepAll
    → is_reliable (own_reader (part_at (opening config) reader.peer) reader.number).qos.reliability ≡ true
    → IsSome (place_at (opening config) reader writer)
    → Run tests 0 (opening config) events replies last after → owed_from (writer_at after writer) reader ≤ 1
    → CameInOrder after writer reader
