use Rattle.std.proofs.Common.{◌≡◌, ◌<◌, ℕ, Some, slice_get}
use Rattle.dds_ends.specs.Answering.{IsUnasked}
use Rattle.dds_ends.specs.Kept.{WriterKept}
use Rattle.dds_ends.specs.Readiness.{receiver_at}
use Rattle.dds_core.proofs.requests.asked_writer.Given as goal

-- the ACKNACK is for no writer before this one
abbrev pub invariant-loop-index : goal.invariant-loop-index
invariant-loop-index l =
    (j : ℕ) (k : WriterKept) → j < l.index → slice_get l.fn.writers j ≡ Some k
    → IsUnasked l.fn.own (receiver_at l.fn.receiver) l.fn.body k
