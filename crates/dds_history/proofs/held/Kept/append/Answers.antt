use Rattle.std.proofs.Common.{ℕ, sym, subst, ◌∙◌}
use Rattle.dds_history.specs.Entries.{Holds, shown, state}
use Rattle.dds_history.proofs.Adding.{later_holds, not_taken}
use Rattle.dds_history.proofs.held.Kept.append.Goals as goal

pub returns-then-not-takes-clause-ok : goal.returns-then-not-takes-clause-ok
returns-then-not-takes-clause-ok c = λ last before n.
    let was = state c.args.self.now in
    let out = sym c.takes.ensures ∙ c.if-not-takes.true in (
      subst (λ (k : ℕ). Holds k was) before.next (later_holds last was before.holds),
      not_taken c.args.self.now.policy (shown was) c.args.number c.args.change c.args.is_awaited out (n.none out),
    )
