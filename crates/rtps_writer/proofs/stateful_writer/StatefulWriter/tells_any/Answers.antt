-- tells_any
use Rattle.std.proofs.Common.{◌≡◌, ℕ, Bool, true, false, ◌||◌, ap, sym, ◌∙◌}
use Rattle.dds_base.specs.Kept.{is_awaited}
use Rattle.rtps_writer.specs.WriterState.{history_of, is_asked, is_behind}
use Rattle.rtps_writer.proofs.Parts.{history_at}
use Rattle.rtps_writer.proofs.stateful_writer.StatefulWriter.tells_any.Goals as goal

pub returns-then-is_awaited : goal.returns-then-is_awaited
returns-then-is_awaited c = λ s given.
    let h = history_at _ c.args.self.now s c.self.view_is given in
    let behind : is_behind s ≡ true =
    ap (λ (n : ℕ). is_awaited (history_of s) n) (sym (c.last-last.ensures.last (history_of s) h))
    ∙ (sym (c.is_awaited.ensures.awaited (history_of s) h) ∙ c.if-is_awaited.true) in
    c.if-is_awaited.true ∙ sym (ap (λ (b : Bool). b || is_asked s) behind)

pub returns-else-is_awaited : goal.returns-else-is_awaited
returns-else-is_awaited c = λ s given.
    let h = history_at _ c.args.self.now s c.self.view_is given in
    let behind : is_behind s ≡ false =
    ap (λ (n : ℕ). is_awaited (history_of s) n) (sym (c.last-last.ensures.last (history_of s) h))
    ∙ (sym (c.is_awaited.ensures.awaited (history_of s) h) ∙ c.if-is_awaited.false) in
    c.is_asked.ensures s given ∙ sym (ap (λ (b : Bool). b || is_asked s) behind)
