use Rattle.std.proofs.Common.{ℕ, max, ap, ◌∙◌}
use Rattle.rtps_writer.specs.WriterState.{history_of, owed_from}
use Rattle.rtps_writer.proofs.Parts.{history_at}
use Rattle.rtps_writer.proofs.stateful_writer.StatefulWriter.first_for.Goals as goal

pub returns : goal.returns
returns c = record {
  first = λ s given.
      let h = history_at _ c.args.self.now s c.self.view_is given in
      c.new.ensures.number
      ∙ (c.max.ensures
      ∙ (ap (λ (n : ℕ). max n c.number.result) (c.number-owed.ensures.number ∙ c.owed_from.ensures s given)
      ∙ ap (λ (n : ℕ). max (owed_from s c.args.reader) n)
      (c.number.ensures.number ∙ c.first.ensures.first (history_of s) h)));
}
