use Rattle.std.proofs.Common.{List, length, subst}
use Rattle.dds_ends.specs.Kept.{ReaderKept, WriterKept}
use Rattle.dds_ends.specs.Noticing.{MarksReaders, MarksWriters}
use Rattle.dds_core.proofs.Notified.{marks_peer}
use Rattle.dds_core.proofs.peer.Peer.marks.Goals as goal

pub returns : goal.returns
returns c =
    marks_peer _ c.args.self.now c.mark_writers.result c.mark_readers.result c.self.view_is
    (subst (λ (ws : List WriterKept). MarksWriters ws (length ws) c.mark_writers.result) c.as_slice.ensures.value
    c.mark_writers.ensures)
    (subst (λ (rs : List ReaderKept). MarksReaders rs (length rs) c.mark_readers.result) c.as_slice-2.ensures.value
    c.mark_readers.ensures)
