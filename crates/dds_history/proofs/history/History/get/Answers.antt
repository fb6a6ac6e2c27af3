use Rattle.std.proofs.Common.{◌≡◌, ℕ, ap, sym, subst, ◌∙◌}
use Rattle.std.specs.Prelude.{Option, find}
use Rattle.std.specs.Option.{option_map, option_copied}
use Rattle.dds_history.specs.Entries.{KeptState, Rises, shown, state}
use Rattle.dds_history.specs.Held.{HeldChange}
use Rattle.dds_history.specs.Standing.{Held, kept_in}
use Rattle.dds_history.proofs.Letting.{get_is}
use Rattle.dds_history.proofs.Numbering.{at_number}
use Rattle.dds_history.proofs.history.History.get.Goals as goal

pub returns-in_err-entry : goal.returns-in_err-entry
returns-in_err-entry c = record {
  change = λ w s.
      let now : Held = c.args.self.now in
      let kept : state c.self.inside.kept ≡ kept_in now = ap (λ (v : Held). kept_in v) c.self.view_is in
      let rises = subst (λ (k : KeptState). Rises k.entries) (sym kept) s.holds.rises in
      let found = c.in_err-entry.ensures rises
      ∙ (ap (λ (n : ℕ). find (at_number n) (shown (state c.self.inside.kept))) c.number.ensures.number
      ∙ ap (λ (k : KeptState). find (at_number c.args.number) (shown k)) kept) in
      ap (λ (o : Option _). option_copied o) c.from_residual.ensures
      ∙ (ap (λ (o : Option HeldChange). option_map (λ (e : HeldChange). e.change) o) found
      ∙ sym (get_is now w c.args.number s));
}

pub returns : goal.returns
returns c = record {
  change = λ w s.
      let now : Held = c.args.self.now in
      let kept : state c.self.inside.kept ≡ kept_in now = ap (λ (v : Held). kept_in v) c.self.view_is in
      let rises = subst (λ (k : KeptState). Rises k.entries) (sym kept) s.holds.rises in
      let found = c.in_ok-entry.ensures rises
      ∙ (ap (λ (n : ℕ). find (at_number n) (shown (state c.self.inside.kept))) c.number.ensures.number
      ∙ ap (λ (k : KeptState). find (at_number c.args.number) (shown k)) kept) in
      ap (λ (o : Option HeldChange). option_map (λ (e : HeldChange). e.change) o) found
      ∙ sym (get_is now w c.args.number s);
}
