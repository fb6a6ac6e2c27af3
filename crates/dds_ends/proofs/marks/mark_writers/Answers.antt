use Rattle.dds_ends.specs.Noticing.{MarksWriter}
use Rattle.dds_ends.proofs.Marked.{marked_all, marked_next, marked_none}
use Rattle.dds_ends.proofs.marks.mark_writers.Goals as goal

pub loop-index-init : goal.loop-index-init
loop-index-init c = marked_none MarksWriter (record { losses = 0; matched = 0 }) c.args.writers.now 16

pub loop-index-preserved : goal.loop-index-preserved
loop-index-preserved c =
    marked_next MarksWriter (record { losses = 0; matched = 0 }) c.args.writers.now c.loop-index.index c.loop-index.marks c.index-writers-index.result
    c.mark.result c.loop-index.invariant c.loop-index-test.true c.index-writers-index.is c.mark.ensures

pub returns : goal.returns
returns c =
    marked_all MarksWriter (record { losses = 0; matched = 0 }) c.args.writers.now c.loop-index.index c.loop-index.marks
    c.loop-index.auto.index-end c.loop-index-test.false c.loop-index.invariant
