use Rattle.dds_ends.specs.Noticing.{MarksWriters}
use Rattle.dds_ends.proofs.marks.mark_writers.Given as goal

abbrev pub invariant-loop-index : goal.invariant-loop-index
invariant-loop-index l = MarksWriters l.fn.writers l.index l.marks
