-- What a pass carries, and how one event, and a peer that is closed, speak of it.
--
-- Passes are this project's own.
use Rattle.std.specs.Prelude.{◌≡◌, ℕ, List, [], ◌∷◌, ◌++◌, ◌==◌, if◌then◌else◌, Option, None}
use Rattle.dds_protocol.specs.declared.event.Event.{Event}
use Rattle.dds_protocol.specs.declared.event.Output.{Output}
use Rattle.dds_trace.specs.declared.trace.Entry.{Entry}
use Rattle.dds_trace.specs.History.{entry_of}

-- a wait that was given up: its WaitSet, in which nobody waited when there were so many entries
pub record GaveUp : Type 0 where
  pub wait_set : ℕ
  pub at : ℕ

-- a pass: its seat, the entries that it made or that came with the passes joined into it, for how many more there is
-- room, how many passes it is, a number of entries that it has seen the peer reach, and which wait it gave up last
pub record Carried : Type 0 where
  pub seat : ℕ
  pub list : List Entry
  pub spare : ℕ
  pub parts : ℕ
  pub front : ℕ
  pub gave_up : Option GaveUp

-- a pass of this seat that did nothing yet, and has seen so many entries
abbrev pub unused : ℕ → ℕ → ℕ → Carried
unused seat spare front = record {
  seat = seat;
  list = [];
  spare = spare;
  parts = 1;
  front = front;
  gave_up = None;
}

-- the list of a pass grows by these entries, which it has seen
abbrev pub Grows : Carried → Carried → List Entry → Type 0
Grows was after es = after ≡ record was { list = was.list ++ es; spare = after.spare; front = after.front }

-- the list of a pass grows by one entry: this event of its seat, with this output
abbrev pub Lists : Carried → Carried → Event → Output → Type 0
Lists was after event output = Grows was after (entry_of was.seat event output ∷ [])

-- of a pass nothing changes but the room
abbrev pub IsAsBefore : Carried → Carried → Type 0
IsAsBefore was after = after ≡ record was { spare = after.spare }

-- the entries of one seat, in order
abbrev pub entries_of : ℕ → List Entry → List Entry
entries_of seat [] = []
entries_of seat (e ∷ es) = if e.seat == seat then e ∷ entries_of seat es else entries_of seat es

-- the lists of the passes, one after another
abbrev pub lists_of : List Carried → List Entry
lists_of [] = []
lists_of (p ∷ ps) = p.list ++ lists_of ps

-- for every seat, the entries of a trace are those of the passes, in order
abbrev pub SameSeats : List Entry → List Carried → Type 0
SameSeats es ps = (seat : ℕ) → entries_of seat es ≡ entries_of seat (lists_of ps)
