use Rattle.std.proofs.Common.{◌≡◌, ◌<◌, ℕ, Some, slice_get}
use Rattle.dds_ends.specs.Kept.{WriterKept}
use Rattle.dds_core.specs.ObservingKept.{IsFromNobody}
use Rattle.dds_ends.specs.Readiness.{receiver_at}
use Rattle.dds_core.proofs.observing.named_writer.Given as goal

-- it is for no writer before this one
abbrev pub invariant-loop-index : goal.invariant-loop-index
invariant-loop-index l =
    (j : ℕ) (k : WriterKept) → j < l.index → slice_get l.fn.writers j ≡ Some k
    → IsFromNobody l.fn.own k.entity (receiver_at l.fn.receiver) l.fn.body k.readers
