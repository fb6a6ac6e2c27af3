use Rattle.dds_ends.specs.Noticing.{MarksReader}
use Rattle.dds_ends.proofs.Marked.{marked_all, marked_next, marked_none}
use Rattle.dds_ends.proofs.marks.mark_readers.Goals as goal

pub loop-index-init : goal.loop-index-init
loop-index-init c = marked_none MarksReader (record { happened = 0; here = 0 }) c.args.readers.now 16

pub loop-index-preserved : goal.loop-index-preserved
loop-index-preserved c =
    marked_next MarksReader (record { happened = 0; here = 0 }) c.args.readers.now c.loop-index.index c.loop-index.marks
    c.index-readers-index.result c.mark.result c.loop-index.invariant c.loop-index-test.true
    c.index-readers-index.is c.mark.ensures

pub returns : goal.returns
returns c =
    marked_all MarksReader (record { happened = 0; here = 0 }) c.args.readers.now c.loop-index.index c.loop-index.marks
    c.loop-index.auto.index-end c.loop-index-test.false c.loop-index.invariant
