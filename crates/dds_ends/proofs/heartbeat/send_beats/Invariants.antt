use Rattle.dds_ends.proofs.Beating.{SentBefore}
use Rattle.dds_ends.proofs.heartbeat.send_beats.Given as goal

abbrev pub invariant-loop-row : goal.invariant-loop-row
invariant-loop-row l = SentBefore l.fn.beat l.fn.writer l.fn.readers l.row l.initial.sent l.sent
