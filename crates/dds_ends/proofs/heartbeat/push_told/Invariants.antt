use Rattle.std.proofs.Common.{take}
use Rattle.dds_ends.specs.Beating.{names_at}
use Rattle.dds_ends.proofs.ByName.{Pushed, told_before}
use Rattle.dds_ends.proofs.heartbeat.push_told.Given as goal

abbrev pub invariant-loop-row : goal.invariant-loop-row
invariant-loop-row l =
    Pushed l.fn.beat l.fn.writer l.fn.readers (told_before l.fn.readers l.row)
    (names_at (take l.row l.fn.readers) l.fn.peer) l.fn.peer l.initial.submessages l.submessages
