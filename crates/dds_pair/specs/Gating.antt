-- What the program's gates say.
--
-- Gates are this project's own.
use Rattle.std.specs.Prelude.{◌≡◌, ℕ, ◌+◌, ◌%◌, ◌≤◌, Bool, true, false, ◌&&◌, ◌==◌}
use Rattle.dds_pair.specs.declared.turn.Turn.{Turn}
use Rattle.dds_pair.specs.declared.turn.Turn.TheVariants.{Stop, Receive, Tick}

-- a gate: how many turns it said, and whether it says ticks
pub record Said : Type 0 where
  pub turns : ℕ
  pub ticks : Bool

-- each 64th turn is a tick, where there are ticks
abbrev pub is_tick : Bool → ℕ → Bool
is_tick ticks turn = ticks && (turn % 64 == 0)

-- the gate said one turn more, of which there are 1,000,000 at most
abbrev pub IsNextTurn : ℕ → ℕ → Type 0
IsNextTurn turns after = (after ≡ turns + 1) × (after ≤ 1000000)

-- a gate that said so many turns stops, or says one more: a tick to the moment of its number, or a receive
abbrev pub SaysTurn : Bool → ℕ → Turn → ℕ → Type 0
SaysTurn ticks turns Stop after = after ≡ turns
SaysTurn ticks turns Receive after = IsNextTurn turns after × (is_tick ticks after ≡ false)
SaysTurn ticks turns (Tick now) after = IsNextTurn turns after × (is_tick ticks after ≡ true) × (now ≡ after)
