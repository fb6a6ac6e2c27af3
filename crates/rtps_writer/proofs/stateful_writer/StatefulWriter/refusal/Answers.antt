use Rattle.rtps_writer.specs.WriterState.{history_of}
use Rattle.rtps_writer.proofs.Parts.{history_at}
use Rattle.rtps_writer.proofs.stateful_writer.StatefulWriter.refusal.Goals as goal

pub returns : goal.returns
returns c =
    record {
      refusal = λ s given. c.refusal.ensures.refusal (history_of s)
          (history_at _ c.args.self.now s c.self.view_is given);
    }
