use Rattle.std.proofs.Common.{take}
use Rattle.dds_ends.specs.Beating.{names_at}
use Rattle.dds_ends.proofs.ByName.{Pushed}
use Rattle.dds_ends.proofs.heartbeat.push_matched.Given as goal

abbrev pub invariant-loop-name : goal.invariant-loop-name
invariant-loop-name l =
    Pushed l.fn.beat l.fn.writer l.fn.readers (λ w answered. take l.name-index l.fn.matched)
    (names_at (take l.name-index l.fn.matched) l.fn.peer) l.fn.peer l.initial.submessages l.submessages
