use Rattle.std.proofs.Common.{◌≡◌, ◌<◌, ℕ, Some, slice_get}
use Rattle.dds_ends.specs.declared.matching.WriterName.{WriterName}
use Rattle.dds_ends.proofs.matched_rows.writer_row_among.Given as goal

-- no name before this one is the writer's
abbrev pub invariant-loop-row : goal.invariant-loop-row
invariant-loop-row l =
    (j : ℕ) (n : WriterName) → j < l.row → slice_get l.fn.names j ≡ Some n → n.writer ≡ l.fn.writer → ⊥
