use Rattle.std.proofs.Common.{◌≡◌, ℕ, Some, drop, slice_get, length}
use Rattle.std.specs.Prelude.{Option}
use Rattle.dds_ends.specs.declared.reader_told.Ready.{Ready}
use Rattle.dds_ends.specs.Kept.{ReaderKept}
use Rattle.dds_ends.specs.Readiness.{receiver_at, IsReadyFor}
use Rattle.dds_core.specs.Readiness.{AreAlike}
use Rattle.dds_core.proofs.delivery.prepare.Given as goal

abbrev pub invariant-loop-index : goal.invariant-loop-index
invariant-loop-index l = record {
  alike : AreAlike l.initial.readers l.readers;
  left : drop l.index l.readers ≡ drop l.index l.initial.readers;
  count : length l.ready.items ≡ l.index;
  each : (i : ℕ) (k : ReaderKept) (r : Option Ready) → slice_get l.readers i ≡ Some k
      → slice_get l.ready.items i ≡ Some r → IsReadyFor l.fn.own (receiver_at l.fn.receiver) l.fn.submessage k r;
}
