use Rattle.std.proofs.Common.{◌≡◌, true, take}
use Rattle.std.specs.List.{list_all}
use Rattle.dds_ends.specs.Beating.{ForEach}
use Rattle.dds_ends.proofs.Begins.{is_for_row}
use Rattle.dds_ends.proofs.heartbeat.is_one_for_all.Given as goal

abbrev pub invariant-loop-row : goal.invariant-loop-row
invariant-loop-row l =
    ForEach l.fn.first l.fn.writer l.fn.readers
    (λ w answered. list_all (is_for_row answered w l.fn.peer) (take l.row w.readers) ≡ true)
