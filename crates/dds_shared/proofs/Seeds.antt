-- A seed stays one to which nothing happened as filters and listeners are set.
use Rattle.std.proofs.Common.{◌≡◌, ℕ, Bool, List, [], sym, subst}
use Rattle.std.specs.Prelude.{Result, Ok, Err, Option, IfOk, OnErr}
use Rattle.dds_base.specs.declared.code.Code.{Code}
use Rattle.dds_base.specs.declared.config.Config.{Config}
use Rattle.dds_base.specs.declared.entity.Entity.{Entity}
use Rattle.dds_base.specs.declared.key.Key.{Key}
use Rattle.dds_notices.specs.declared.mask.StatusMask.{StatusMask}
use Rattle.dds_notices.specs.declared.notice.Notice.{Notice}
use Rattle.dds_notices.specs.Listeners.{with_entity}
use Rattle.dds_core.specs.Listening.{Adds, CoreKept, Sets}
use Rattle.dds_trace.specs.History.{IsHistoryOf}
use Rattle.dds_trace.proofs.Adding.{filtered, listened}
use Rattle.dds_shared.specs.Seeds.{listeners_in}
use Rattle.dds_shared.proofs.Given.{is_given}

module _ {F L : Type 0} (meaning : F → Key → List ℕ → Bool) (notices : L → List Notice) (capacity : L → ℕ)
    (becomes : L → Notice → L → Type 0) (config : Config) (number : ℕ) where
  -- nothing happened to a core, which has the listeners that are set
  abbrev pub IsFresh : CoreKept F L → Type 0
  IsFresh core =
      IsHistoryOf meaning notices capacity becomes (listeners_in core.listeners) config number [] core

  pub filtered_or_same : (old new : CoreKept F L) (filter : F) (result : Result ℕ (Code × F))
      → IsFresh old → IfOk result (λ k. Adds notices capacity becomes old filter k new) → OnErr result (new ≡ old)
      → IsFresh new
  filtered_or_same old new filter (Ok k) h ok err =
      is_given meaning notices capacity becomes (listeners_in old.listeners) config number new
      (filtered meaning notices capacity becomes (listeners_in old.listeners) config number old new filter k h ok)
  filtered_or_same old new filter (Err back) h ok err = subst (λ (c : CoreKept F L). IsFresh c) (sym err) h

  pub listened_or_same : (old new : CoreKept F L) (e : Entity) (mask : StatusMask) (listener : Option L)
      (result : Result (Option L) (Code × Option L))
      → IsFresh old → IfOk result (λ handed. Sets notices capacity becomes old e mask listener handed new)
      → OnErr result (new ≡ old) → IsFresh new
  listened_or_same old new e mask listener (Ok handed) h ok err =
      is_given meaning notices capacity becomes (with_entity (listeners_in old.listeners) e listener) config number new
      (listened meaning notices capacity becomes (listeners_in old.listeners) config number old new e mask listener
      handed h ok)
  listened_or_same old new e mask listener (Err back) h ok err = subst (λ (c : CoreKept F L). IsFresh c) (sym err) h
