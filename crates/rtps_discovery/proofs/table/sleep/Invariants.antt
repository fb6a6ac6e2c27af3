-- the rows so far have slept, the others are as they were
use Rattle.std.proofs.Common.{◌≡◌, ◌++◌, map, take, drop}
use Rattle.rtps_discovery.specs.Rows.{slept_row}
use Rattle.rtps_discovery.proofs.table.sleep.Given as goal

abbrev pub invariant-loop-row : goal.invariant-loop-row
invariant-loop-row l =
    l.rows ≡ map (slept_row l.now) (take l.row-index l.fn.rows) ++ drop l.row-index l.fn.rows
