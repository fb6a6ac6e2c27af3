use Rattle.std.proofs.Common.{sym}
use Rattle.rtps_writer.specs.WriterState.{history_of}
use Rattle.rtps_writer.proofs.Parts.{history_at, stands-left, stands_as}
use Rattle.rtps_writer.proofs.stateful_writer.StatefulWriter.leave.Goals as goal

pub returns-clause-stands : goal.returns-clause-stands
returns-clause-stands c = λ s given.
    let h = history_at _ c.args.self.now s c.self.view_is given in
    let here = stands_as c.args.self.now _ s (sym c.self.view_is) given in
    stands-left _ s c.args.reader c.leave.new.self _ _ _ _ here (c.leave.ensures.stands (history_of s) h)
    c.remove.ensures.items c.remove-4.ensures.items c.remove-2.ensures.items c.remove-3.ensures.items
