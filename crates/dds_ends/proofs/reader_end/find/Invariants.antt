use Rattle.std.proofs.Common.{◌≡◌, ◌<◌, ℕ, Some, slice_get}
use Rattle.dds_ends.specs.declared.matching.WriterName.{WriterName}
use Rattle.dds_ends.proofs.reader_end.find.Given as goal

-- no row before this one has the name
abbrev pub invariant-loop-index : goal.invariant-loop-index
invariant-loop-index l =
    (j : ℕ) (n : WriterName) → j < l.index → slice_get l.fn.names j ≡ Some n → n.guid ≡ l.fn.guid → ⊥
