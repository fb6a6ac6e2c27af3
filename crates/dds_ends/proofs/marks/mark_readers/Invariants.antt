use Rattle.dds_ends.specs.Noticing.{MarksReaders}
use Rattle.dds_ends.proofs.marks.mark_readers.Given as goal

abbrev pub invariant-loop-index : goal.invariant-loop-index
invariant-loop-index l = MarksReaders l.fn.readers l.index l.marks
