use Rattle.std.proofs.Common.{List, Option, ap, ◌∙◌}
use Rattle.dds_base.specs.declared.change.Change.{Change}
use Rattle.rtps_reader.specs.HeldChanges.{count_held}
use Rattle.rtps_reader.proofs.held_changes.HeldChanges.count.Goals as goal

pub returns : goal.returns
returns c =
    c.self.invariant.counted ∙ ap (λ (places : List (Option Change)). count_held places) c.self.view_is
