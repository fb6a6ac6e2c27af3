use Rattle.std.proofs.Common.{◌∙◌}
use Rattle.rtps_sets.proofs.MarkLaws.{missing_numbers}
use Rattle.rtps_sets.proofs.window.Window.missing.Goals as goal

pub returns-clause-members : goal.returns-clause-members
returns-clause-members c = λ n.
    rw (← c.self.view_is, ← c.number.ensures.number)
    (missing_numbers
    (record { place = c.self.inside.place; held = c.self.inside.held; irrelevant = c.self.inside.irrelevant })
    c.with_members.result c.free-members.result c.place_in_ring.result c.number.result c.count_up_to.result n
    (c.with_members.ensures.base ∙ c.new.ensures.number) c.with_members.ensures.members c.free-members.ensures.count
    c.place_in_ring.ensures c.free-members.ensures.each c.count_up_to.ensures)
