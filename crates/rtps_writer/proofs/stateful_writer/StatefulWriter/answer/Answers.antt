use Rattle.std.proofs.Common.{ℕ, ◌&&◌, List, ap, ◌∙◌}
use Rattle.std.specs.Prelude.{nat_le}
use Rattle.dds_base.specs.Kept.{is_kept}
use Rattle.rtps_writer.specs.declared.answer.Answer.{Answer}
use Rattle.rtps_writer.specs.Answers.{answered_from, answers_to, requested}
use Rattle.rtps_writer.specs.WriterState.{history_of, last_of, owed_from}
use Rattle.rtps_writer.proofs.Parts.{history_at}
use Rattle.rtps_writer.proofs.stateful_writer.StatefulWriter.answer.Goals as goal

pub returns : goal.returns
returns c = λ s given.
    let h = history_at _ c.args.self.now s c.self.view_is given in
    let answers : ℕ → ℕ → List Answer = λ owed from.
    answers_to (λ k. is_kept (history_of s) k && nat_le owed k) (requested c.args.set.now from (last_of s)) in
    let owed = c.owed_from-owed.ensures s given in
    let from =
    c.answered_from-from.ensures
    ∙ (ap (λ (n : ℕ). answered_from n c.acknowledged.result c.args.base) owed
    ∙ ap (λ (n : ℕ). answered_from (owed_from s c.args.reader) n c.args.base)
    (c.acknowledged.ensures.acknowledged (history_of s) h)) in
    c.put_answers.ensures (history_of s) h
    ∙ (ap (λ (n : ℕ). answers n c.answered_from-from.result) owed
    ∙ ap (λ (n : ℕ). answers (owed_from s c.args.reader) n) from)
