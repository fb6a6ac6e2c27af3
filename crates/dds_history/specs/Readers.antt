-- The matched reliable readers of a history come and go
-- (RTPS 2.5, 8.4.7: StatefulWriter, matched_reader_add, matched_reader_remove).
use Rattle.std.specs.Prelude.{ℕ, ◌+◌, [], ◌∷◌, ◌++◌, length}
use Rattle.std.specs.List.{remove}
use Rattle.dds_base.specs.Kept.{WriterHistory}

-- the history once one more reader is matched: it comes last, and awaits none of the changes that were made
abbrev pub joined : WriterHistory → WriterHistory
joined w = record w { acknowledged = w.acknowledged ++ (length w.changes + 1) ∷ [] }

-- the history once the reader of this index, from 0, is not matched any more: those behind it move down by one
abbrev pub left : WriterHistory → ℕ → WriterHistory
left w reader = record w { acknowledged = remove w.acknowledged reader }
