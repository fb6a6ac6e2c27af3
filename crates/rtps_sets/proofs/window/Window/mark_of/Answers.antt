use Rattle.std.proofs.Common.{◌≡◌, true, false, sym, ◌∙◌, rules}
use Rattle.rtps_sets.specs.Window.{is_in_window}
use Rattle.rtps_sets.proofs.MarkLaws.{mark_inside, mark_outside}
use Rattle.rtps_sets.proofs.window.Window.mark_of.Goals as goal

pub returns-then-is_in_window : goal.returns-then-is_in_window
returns-then-is_in_window c =
    let is : is_in_window c.self.inside.place c.number-number.result ≡ true = search rules in
    record {
      mark = rw (← c.self.view_is, ← c.number-number.ensures.number)
          (c.ring_mark.ensures
          ∙ sym (mark_inside
          (record { place = c.self.inside.place; held = c.self.inside.held; irrelevant = c.self.inside.irrelevant })
          c.number-number.result is));
    }

pub returns-else-is_in_window : goal.returns-else-is_in_window
returns-else-is_in_window c =
    let is : is_in_window c.self.inside.place c.number-number.result ≡ false = search rules in
    record {
      mark = rw (← c.self.view_is, ← c.number-number.ensures.number)
          (sym (mark_outside
          (record { place = c.self.inside.place; held = c.self.inside.held; irrelevant = c.self.inside.irrelevant })
          c.number-number.result is));
    }
