-- What a sink stands for, and what it keeps where something that happened is entered.
--
-- RTPS 2.5, 8.2 (HistoryCache of a reader, add_change).
use Rattle.std.specs.Prelude.{◌≡◌, ℕ, ◌+◌, ◌≤◌, ◌<◌, List, length, false, Result, OnErr, IsOk, IfErr}
use Rattle.dds_base.specs.declared.code.Code.{Code}
use Rattle.dds_base.specs.declared.code.Code.TheVariants.{Memory}
use Rattle.dds_base.specs.declared.happening.Happening.{Happening}
use Rattle.dds_base.specs.declared.key.Key.{Key}
use Rattle.dds_base.specs.declared.qos.ReaderQos.{ReaderQos}
use Rattle.dds_base.specs.Happening.{is_taken}

-- this is the publication handle of one of so many matched writers
abbrev pub IsAmong : ℕ → ℕ → Type 0
IsAmong writers publication = (0 < publication) × (publication ≤ writers)

-- no access returned what had not happened
abbrev pub NoneTakenAhead : List Happening → Type 0
NoneTakenAhead h = (i : Key) (j : ℕ) → length h < j → is_taken (record { key = i; position = j }) h ≡ false

-- what an entry more leaves alone, and how it may be refused: of a sink, which is seen by what it stands for, its
-- policies, how many writers are matched, and how many more entries can't fail
pub record SinkKeepsRest {S : Type 0} (Stands : S → List Happening → Type 0) (policies : S → ReaderQos)
    (matched spare : S → ℕ) (before after : S) (answer : Result (Unit {0}) Code) : Type 0 where
  -- a refusal leaves what happened as it was
  pub err : OnErr answer ((h : List Happening) → Stands before h → Stands after h)
  -- the policies stay
  pub qos : policies after ≡ policies before
  -- as many writers are matched
  pub writers : matched after ≡ matched before
  -- it takes the memory of one entry at most
  pub room : spare before ≤ spare after + 1
  -- where there is memory for an entry it succeeds
  pub succeeds : 1 ≤ spare before → IsOk answer
  -- it is refused for want of memory alone
  pub memory : IfErr answer (λ code. code ≡ Memory)
