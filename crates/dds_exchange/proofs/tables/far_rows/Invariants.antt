-- those of the endpoints so far
use Rattle.std.proofs.Common.{◌≡◌, map, take}
use Rattle.dds_exchange.specs.Tables.{far_rows, said_row}
use Rattle.dds_exchange.proofs.tables.far_rows.Given as goal

abbrev pub invariant-loop-end : goal.invariant-loop-end
invariant-loop-end l = map said_row l.rows.items ≡ far_rows l.source l.readers (take l.end-index l.named)
