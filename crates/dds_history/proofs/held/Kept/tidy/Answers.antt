use Rattle.std.proofs.Common.{List, ap, sym, subst, ◌∙◌}
use Rattle.dds_history.specs.declared.held.Entry.{Entry}
use Rattle.dds_history.specs.Entries.{Holds, held_by, shown, state}
use Rattle.dds_history.proofs.Counting.{after_retaining, all_from_0, shown_kept}
use Rattle.dds_history.proofs.held.Kept.tidy.Goals as goal

pub returns-then-is_sparse-clause-same : goal.returns-then-is_sparse-clause-same
returns-then-is_sparse-clause-same c = λ last h.
    let now = c.let_go.new.self in
    let rest = c.let_go.ensures.rest last h in (
      subst (λ (es : List Entry).
          Holds last (record { policy = now.policy; entries = es; counted = now.keys.entries; live = now.live }))
          (sym c.retain_kept.ensures)
          (after_retaining now.policy last now.keys.entries now.live now.entries.items rest.0),
      ap (λ (es : List Entry). held_by now.policy now.keys.entries es) c.retain_kept.ensures
          ∙ (shown_kept now.policy now.keys.entries now.entries.items
          ∙ (rest.1 ∙ all_from_0 (shown (state c.args.self.now)))),
    )

pub returns-else-is_sparse-clause-same : goal.returns-else-is_sparse-clause-same
returns-else-is_sparse-clause-same c = λ last h.
    let rest = c.let_go.ensures.rest last h in
    (rest.0, rest.1 ∙ all_from_0 (shown (state c.args.self.now)))
