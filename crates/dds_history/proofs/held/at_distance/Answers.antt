use Rattle.std.proofs.Common.{ap, sym, ◌∙◌}
use Rattle.std.specs.Prelude.{ℕ, Some, find}
use Rattle.dds_history.proofs.Rising.{at_entry, found_itself, got}
use Rattle.dds_history.proofs.held.at_distance.Goals as goal

pub returns-then-entry-number : goal.returns-then-entry-number
returns-then-entry-number c = λ rises.
    let at = sym (got _ c.in_ok-distance.distance (Some c.in_ok-entry.entry) c.in_ok-entry.ensures.item) in
    sym (ap (λ (m : ℕ). find (at_entry m) c.args.entries.now.items) c.if-entry-number.true)
    ∙ found_itself c.in_ok-distance.distance 0 c.in_ok-entry.entry.now c.args.entries.now.items rises at
