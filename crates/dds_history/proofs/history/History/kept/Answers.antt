use Rattle.std.proofs.Common.{◌≡◌, ℕ, ap, sym, subst, ◌∙◌}
use Rattle.std.specs.Prelude.{Option, is_some, find}
use Rattle.dds_history.specs.Entries.{KeptState, Rises, shown, state}
use Rattle.dds_history.specs.Held.{HeldChange}
use Rattle.dds_history.specs.Standing.{Held, kept_in}
use Rattle.dds_history.proofs.Letting.{kept_is, some_as}
use Rattle.dds_history.proofs.Numbering.{at_number}
use Rattle.dds_history.proofs.history.History.kept.Goals as goal

pub returns : goal.returns
returns c = record {
  kept = λ w s.
      let now : Held = c.args.self.now in
      let kept : state c.self.inside.kept ≡ kept_in now = ap (λ (v : Held). kept_in v) c.self.view_is in
      let rises = subst (λ (k : KeptState). Rises k.entries) (sym kept) s.holds.rises in
      let found = c.find.ensures rises
      ∙ (ap (λ (n : ℕ). find (at_number n) (shown (state c.self.inside.kept))) c.number.ensures.number
      ∙ ap (λ (k : KeptState). find (at_number c.args.number) (shown k)) kept) in
      c.is_some.ensures
      ∙ (some_as c.self.inside.kept.policy c.self.inside.kept.keys.entries c.find.result
      ∙ (ap (λ (o : Option HeldChange). is_some o) found ∙ sym (kept_is now w c.args.number s)));
}
