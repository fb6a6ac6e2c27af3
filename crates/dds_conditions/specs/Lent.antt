-- A WaitSet that is changed through a reference. Inner functions alone cite this: nothing here has to be believed.
use Rattle.std.specs.Prelude.{ℕ, Some, Result}
use Rattle.std.specs.Borrow.{LendsIfOk, MutBor, Fml}
use Rattle.dds_base.specs.declared.code.Code.{Code}
use Rattle.dds_conditions.specs.Watched.{Watched, with_wait_set_at}
use Rattle.dds_conditions.specs.declared.waiting.Waiting.{Waiting}
use Rattle.dds_conditions.specs.contracts.waiting.Waiting as waiting
use Rattle.dds_conditions.specs.contracts.watch.Watch as watch

-- what is left behind r is the WaitSet of this number, and nothing else changes
abbrev pub LendsWaitSet : MutBor Watched → ℕ → Result (MutBor Waiting) Code → Fml
LendsWaitSet w n r =
    LendsIfOk watch.the_row waiting.the_row w r (λ waiting. with_wait_set_at w.now n (Some waiting)) w.now
