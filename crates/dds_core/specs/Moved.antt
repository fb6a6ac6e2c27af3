-- Moves that are kept twice. Inner functions alone cite this: nothing here has to be believed.
use Rattle.std.specs.Prelude.{◌≡◌, ℕ, ◌≤◌, Bool, List, length, Option, None, Some}
use Rattle.dds_machine.specs.declared.reply.Move.{Move}
use Rattle.dds_machine.specs.declared.reply.Move.TheVariants.{Place, Heard, Begun, Acknowledged, Strange}

-- the moves once more, and for how many more there is room
pub record CopiesKept : Type 0 where
  pub items : List Move
  pub room : ℕ

-- the moves, for how many more there is room, and whether they are kept twice
pub record MovesKept : Type 0 where
  pub items : List Move
  pub room : ℕ
  pub twice : Bool

-- they are the same moves once more, if they are kept twice, with room for as many
abbrev pub AreCopies : Option CopiesKept → List Move → ℕ → Type 0
AreCopies None items room = Unit {0}
AreCopies (Some copies) items room = (copies.items ≡ items) × (copies.room ≡ room)

-- it passes over few runs
abbrev pub IsFew : Move → Type 0
IsFew (Place writer reader to passed) = length passed ≤ 257
IsFew (Heard writer reader) = Unit {0}
IsFew (Begun writer reader from to) = Unit {0}
IsFew (Acknowledged writer reader to) = Unit {0}
IsFew (Strange writer reader) = Unit {0}
