use Rattle.std.proofs.Common.{length, ap, sym, ◌∙◌}
use Rattle.rtps_writer.specs.Standing.{Kept}
use Rattle.rtps_writer.specs.WriterState.{history_of}
use Rattle.rtps_writer.proofs.Parts.{history_at}
use Rattle.rtps_writer.proofs.stateful_writer.StatefulWriter.readers.Goals as goal

pub returns-clause-readers : goal.returns-clause-readers
returns-clause-readers c = c.readers.ensures.readers
    ∙ (sym c.self.invariant.0 ∙ ap (λ (k : Kept). length k.counts) c.self.view_is)

pub returns-clause-acknowledged : goal.returns-clause-acknowledged
returns-clause-acknowledged c =
    λ s given. c.readers.ensures.acknowledged (history_of s) (history_at _ c.args.self.now s c.self.view_is given)
