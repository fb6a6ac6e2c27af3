use Rattle.std.proofs.Common.{◌≡◌, ◌<◌, ℕ, Some, slice_get}
use Rattle.dds_ends.specs.declared.matching.ReaderName.{ReaderName}
use Rattle.dds_ends.specs.Answering.{IsFrom}
use Rattle.dds_ends.specs.Readiness.{receiver_at}
use Rattle.dds_core.proofs.observing.row_from.Given as goal

-- it is from no reader before this one
abbrev pub invariant-loop-row : goal.invariant-loop-row
invariant-loop-row l =
    (j : ℕ) (n : ReaderName) → j < l.row → slice_get l.fn.names j ≡ Some n
    → IsFrom l.fn.own l.fn.entity (receiver_at l.fn.receiver) l.fn.body n → ⊥
