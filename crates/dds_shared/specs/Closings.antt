-- What a peer leaves, recorded or not, once it is closed.
--
-- Passes and closing are this project's own.
use Rattle.std.specs.Prelude.{◌≡◌, ℕ, ◌≤◌, Bool, List, length, All}
use Rattle.dds_base.specs.declared.config.Config.{Config}
use Rattle.dds_base.specs.declared.key.Key.{Key}
use Rattle.dds_notices.specs.declared.notice.Notice.{Notice}
use Rattle.dds_notices.specs.Listeners.{ByEntity}
use Rattle.dds_core.specs.Listening.{CoreKept}
use Rattle.dds_trace.specs.declared.trace.Entry.{Entry}
use Rattle.dds_trace.specs.History.{IsHistoryOf}
use Rattle.dds_shared.specs.Passes.{Carried, SameSeats, lists_of}

-- There is a history of the core, in which the entries of each seat are what the passes did, in order; there are no
-- others, and no pass has seen more.
pub record HasHistory {F L : Type 0} (meaning : F → Key → List ℕ → Bool) (notices : L → List Notice) (capacity : L → ℕ)
    (becomes : L → Notice → L → Type 0) (given : ByEntity L) (config : Config) (number : ℕ) (core : CoreKept F L)
    (passes : List Carried) : Type 0 where
  pub entries : List Entry
  pub history : IsHistoryOf meaning notices capacity becomes given config number entries core
  pub lists : SameSeats entries passes
  pub complete : length entries ≡ length (lists_of passes)
  pub fronts : All (λ (p : Carried). p.front ≤ length entries) passes
