use Rattle.std.proofs.Common.{◌≡◌, ◌<◌, ℕ, Some, slice_get}
use Rattle.dds_ends.specs.Kept.{ReaderKept}
use Rattle.dds_ends.specs.Readiness.{receiver_at, IsNamedFor}
use Rattle.dds_core.proofs.observing.named_reader.Given as goal

-- it is for no reader before this one
abbrev pub invariant-loop-index : goal.invariant-loop-index
invariant-loop-index l =
    (j : ℕ) (k : ReaderKept) → j < l.index → slice_get l.fn.readers j ≡ Some k → (row : ℕ)
    → IsNamedFor l.fn.own k (receiver_at l.fn.receiver) l.fn.ids.reader l.fn.ids.writer row → ⊥
