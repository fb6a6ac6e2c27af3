-- those of the writers so far
use Rattle.std.proofs.Common.{◌≡◌, map, take}
use Rattle.dds_exchange.specs.Tables.{row_of, said_row}
use Rattle.dds_exchange.proofs.tables.own_rows.Given as goal

abbrev pub invariant-loop-writer : goal.invariant-loop-writer
invariant-loop-writer l = map said_row l.rows.items ≡ map (row_of l.own) (take l.writer-index l.writers)
