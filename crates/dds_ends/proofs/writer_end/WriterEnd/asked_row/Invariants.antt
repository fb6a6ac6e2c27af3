use Rattle.std.proofs.Common.{◌<◌, ℕ}
use Rattle.dds_ends.specs.Answering.{IsUnaskedAt}
use Rattle.dds_ends.specs.Readiness.{receiver_at}
use Rattle.dds_ends.proofs.writer_end.WriterEnd.asked_row.Given as goal

-- the ACKNACK is from no reader before this row, or is not applied
abbrev pub invariant-loop-row : goal.invariant-loop-row
invariant-loop-row l =
    (j : ℕ) → j < l.row → IsUnaskedAt l.fn.own (receiver_at l.fn.receiver) l.fn.body l.self j
