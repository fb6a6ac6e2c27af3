use Rattle.std.proofs.Common.{◌≡◌, ◌<◌, ℕ, Some, slice_get}
use Rattle.dds_ends.specs.declared.matching.ReaderName.{ReaderName}
use Rattle.dds_ends.proofs.matched_rows.row_among.Given as goal

-- no name before this one is the reader's
abbrev pub invariant-loop-row : goal.invariant-loop-row
invariant-loop-row l =
    (j : ℕ) (n : ReaderName) → j < l.row → slice_get l.fn.names j ≡ Some n → n.reader ≡ l.fn.reader → ⊥
