use Rattle.std.proofs.Common.{◌≡◌, ◌<◌, ℕ, Some, None, slice_get}
use Rattle.dds_ends.specs.Kept.{ReaderKept}
use Rattle.dds_ends.specs.Readiness.{receiver_at, IsReadyFor}
use Rattle.dds_core.proofs.delivery.named_reader.Given as goal

-- nothing is for a reader before this one
abbrev pub invariant-loop-index : goal.invariant-loop-index
invariant-loop-index l =
    (j : ℕ) (k : ReaderKept) → j < l.index → slice_get l.fn.readers j ≡ Some k
    → IsReadyFor l.fn.own (receiver_at l.fn.receiver) l.fn.submessage k None
