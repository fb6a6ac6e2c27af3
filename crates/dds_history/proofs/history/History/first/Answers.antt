use Rattle.std.proofs.Common.{◌≡◌, ◌+◌, slice_get, ap, sym, ◌∙◌, arith}
use Rattle.std.specs.Prelude.{Option}
use Rattle.std.specs.Option.{option_map, unwrap_or}
use Rattle.dds_history.specs.Entries.{KeptState, shown}
use Rattle.dds_history.specs.Held.{HeldChange}
use Rattle.dds_history.specs.Standing.{Held, kept_in}
use Rattle.dds_history.proofs.Letting.{first_is}
use Rattle.dds_history.proofs.history.History.first.Goals as goal

pub returns-in-Some : goal.returns-in-Some
returns-in-Some c = record {
  first = λ w s.
      let now : Held = c.args.self.now in
      let head = c.in-Some.ensures
      ∙ ap (λ (k : KeptState). slice_get (shown k) 0) (ap (λ (v : Held). kept_in v) c.self.view_is) in
      c.new.ensures.number ∙ ap (λ (o : Option HeldChange). unwrap_or (option_map (λ (e : HeldChange). e.number) o)
      (now.last + 1)) head ∙ sym (first_is now w s);
}

pub returns-in-None : goal.returns-in-None
returns-in-None c = record {
  first = λ w s.
      let now : Held = c.args.self.now in
      let head = c.in-None.ensures
      ∙ ap (λ (k : KeptState). slice_get (shown k) 0) (ap (λ (v : Held). kept_in v) c.self.view_is) in
      let last = ap (λ (v : Held). v.last) c.self.view_is in
      let next : c.new-in-None.result ≡ now.last + 1 =
      omega (arith, c.new-in-None.ensures.number, c.saturating_add.ensures, last, s.few) in
      next ∙ ap (λ (o : Option HeldChange). unwrap_or (option_map (λ (e : HeldChange). e.number) o) (now.last + 1)) head
      ∙ sym (first_is now w s);
}
