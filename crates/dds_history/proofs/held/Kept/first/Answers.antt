use Rattle.std.proofs.Common.{ap, ◌∙◌}
use Rattle.std.specs.Prelude.{Option}
use Rattle.std.specs.Option.{option_map}
use Rattle.dds_history.specs.declared.held.Entry.{Entry}
use Rattle.dds_history.specs.Entries.{held_as}
use Rattle.dds_history.proofs.Counting.{first_shown}
use Rattle.dds_history.proofs.held.Kept.first.Goals as goal

pub returns : goal.returns
returns c =
    ap (λ (o : Option Entry). option_map (held_as c.args.self.now.policy c.args.self.now.keys.entries) o)
    c.first_kept.ensures
    ∙ first_shown c.args.self.now.policy c.args.self.now.keys.entries c.args.self.now.entries.items
