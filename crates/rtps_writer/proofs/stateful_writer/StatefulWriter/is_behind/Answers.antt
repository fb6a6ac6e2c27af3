use Rattle.std.proofs.Common.{ℕ, ap, ◌∙◌}
use Rattle.std.specs.Prelude.{nat_le}
use Rattle.rtps_writer.specs.WriterState.{acknowledged_by, history_of}
use Rattle.rtps_writer.proofs.Parts.{history_at}
use Rattle.rtps_writer.proofs.stateful_writer.StatefulWriter.is_behind.Goals as goal

pub returns : goal.returns
returns c = record {
  behind = λ s given.
      let h = history_at _ c.args.self.now s c.self.view_is given in
      ap (λ (n : ℕ). nat_le n c.number-2.result)
      (c.number.ensures.number ∙ c.acknowledged.ensures.acknowledged (history_of s) h)
      ∙ ap (λ (n : ℕ). nat_le (acknowledged_by s c.args.reader) n)
      (c.number-2.ensures.number ∙ c.last.ensures.last (history_of s) h);
}
