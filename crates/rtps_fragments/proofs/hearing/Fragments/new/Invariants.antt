use Rattle.std.proofs.Common.{◌≡◌, take}
use Rattle.rtps_fragments.specs.Hearing.{rows_of}
use Rattle.rtps_fragments.proofs.hearing.Fragments.new.Given as goal

abbrev pub invariant-loop-writer : goal.invariant-loop-writer
invariant-loop-writer l = l.rows.items ≡ rows_of (take l.writer-index l.writers)
