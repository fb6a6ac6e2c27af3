-- last_for
use Rattle.std.proofs.Common.{ℕ, Bool, ap, sym, ◌∙◌}
use Rattle.std.specs.Prelude.{◌-◌, if◌then◌else◌}
use Rattle.rtps_writer.specs.WriterState.{first_for, last_of}
use Rattle.rtps_writer.proofs.stateful_writer.StatefulWriter.last_for.Goals as goal

pub returns-then-is_silent : goal.returns-then-is_silent
returns-then-is_silent c = record {
  last = λ s given.
      c.new.ensures.number
      ∙ (c.saturating_sub.ensures
      ∙ (ap (λ (n : ℕ). n - 1) (c.number.ensures.number ∙ c.first_for.ensures.first s given)
      ∙ ap (λ (b : Bool). if b then first_for s c.args.reader - 1 else last_of s)
      (sym c.if-is_silent.true ∙ c.is_silent.ensures.silent s given)));
}

pub returns-else-is_silent : goal.returns-else-is_silent
returns-else-is_silent c = record {
  last = λ s given.
      c.last.ensures.last s given
      ∙ ap (λ (b : Bool). if b then first_for s c.args.reader - 1 else last_of s)
      (sym c.if-is_silent.false ∙ c.is_silent.ensures.silent s given);
}
