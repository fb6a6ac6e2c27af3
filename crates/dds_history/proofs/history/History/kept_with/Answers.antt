use Rattle.std.proofs.Common.{ℕ, ◌+◌, Bool, List, ap, sym, ◌∙◌, arith}
use Rattle.dds_history.specs.Entries.{parts, shown, state}
use Rattle.dds_history.specs.Held.{awaits, held_of, kept_after}
use Rattle.dds_history.specs.Standing.{Held}
use Rattle.dds_history.proofs.Letting.{kept_after_is, next_of, stands_as}
use Rattle.dds_history.proofs.history.History.kept_with.Goals as goal

pub returns : goal.returns
returns c = λ w s.
    let now : Held = c.args.self.now in
    let inside = c.self.inside in
    let opened : Held = record {
      policy = inside.kept.policy;
      max_samples = inside.max_samples;
      last = inside.last;
      acknowledged = inside.acknowledged.items;
      kept = parts (state inside.kept);
    } in
    let here = stands_as now opened w (sym c.self.view_is) s in
    let last = ap (λ (v : Held). v.last) c.self.view_is in
    let awaited = c.is_awaited-is_awaited.ensures
    ∙ ap (λ (a : List ℕ). awaits a (inside.last + 1)) c.deref.ensures.value in
    let next = next_of opened w here in
    c.kept_with.ensures inside.last (omega (arith, last, c.requires)) here.holds next.runs
    ∙ (ap (λ (b : Bool). kept_after inside.kept.policy (shown (state inside.kept)) c.args.key b) awaited
    ∙ (kept_after_is opened w c.args.key here
    ∙ ap (λ (n : ℕ). kept_after w.policy (held_of w) c.args.key (awaits w.acknowledged (n + 1))) last))
