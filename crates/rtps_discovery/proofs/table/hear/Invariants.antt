-- the rows so far heard it, the others are as they were
use Rattle.std.proofs.Common.{◌≡◌, ◌++◌, map, take, drop}
use Rattle.rtps_discovery.specs.Rows.{heard_row}
use Rattle.rtps_discovery.proofs.table.hear.Given as goal

abbrev pub invariant-loop-row : goal.invariant-loop-row
invariant-loop-row l =
    l.rows ≡ map (heard_row l.prefix l.address l.now) (take l.row-index l.fn.rows) ++ drop l.row-index l.fn.rows
