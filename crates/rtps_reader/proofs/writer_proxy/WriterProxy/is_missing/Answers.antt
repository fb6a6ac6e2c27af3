use Rattle.std.proofs.Common.{◌≡◌, ℕ, Some, sym, ap, ◌∙◌}
use Rattle.rtps_sets.specs.Window.{mark_of}
use Rattle.rtps_sets.specs.declared.window.Mark.TheVariants as mark
use Rattle.rtps_reader.proofs.KeptLaws.{is_known}
use Rattle.rtps_reader.proofs.writer_proxy.WriterProxy.is_missing.Goals as goal

pub returns-in-Some-Held : goal.returns-in-Some-Held
returns-in-Some-Held c =
    let w = c.args.self.now.window in
    let found = rw c.in-Some-Held.field-0-is at c.in-Some-Held.ensures.mark in
    let marked : mark_of w c.args.number ≡ Some mark.Held =
    ap (λ (n : ℕ). mark_of w n) (sym c.new.ensures.number) ∙ sym found in
    sym (is_known w c.args.self.now.held c.args.number c.requires.sound.kept marked)
