use Rattle.std.proofs.Common.{ap, ◌∙◌}
use Rattle.std.specs.Prelude.{Option, Some, None}
use Rattle.std.specs.Option.{option_copied, option_map}
use Rattle.dds_history.specs.Entries.{held_as}
use Rattle.dds_history.proofs.Counting.{fails, found_kept, passes}
use Rattle.dds_history.proofs.held.Kept.find.Goals as goal

pub returns-in_err-entry : goal.returns-in_err-entry
returns-in_err-entry c = λ rises.
    ap (λ (o : Option _). option_map (held_as c.args.self.now.policy c.args.self.now.keys.entries) (option_copied o))
    c.from_residual.ensures
    ∙ found_kept c.args.self.now.policy c.args.self.now.keys.entries c.args.number c.args.self.now.entries.items None
    rises (c.in_err-entry.ensures rises)

pub returns-then-remaining-gt0 : goal.returns-then-remaining-gt0
returns-then-remaining-gt0 c = λ rises.
    passes (held_as c.args.self.now.policy c.args.self.now.keys.entries c.in_ok-entry.entry.now) c.remaining.result
    c.remaining.ensures c.if-remaining-gt0.true
    ∙ found_kept c.args.self.now.policy c.args.self.now.keys.entries c.args.number c.args.self.now.entries.items
    (Some c.in_ok-entry.entry.now) rises (c.in_ok-entry.ensures rises)

pub returns-else-remaining-gt0 : goal.returns-else-remaining-gt0
returns-else-remaining-gt0 c = λ rises.
    fails (held_as c.args.self.now.policy c.args.self.now.keys.entries c.in_ok-entry.entry.now) c.remaining.result
    c.remaining.ensures c.if-remaining-gt0.false
    ∙ found_kept c.args.self.now.policy c.args.self.now.keys.entries c.args.number c.args.self.now.entries.items
    (Some c.in_ok-entry.entry.now) rises (c.in_ok-entry.ensures rises)
