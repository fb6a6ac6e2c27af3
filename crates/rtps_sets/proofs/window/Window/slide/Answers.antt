use Rattle.std.proofs.Common.{◌≤◌, Option, sym, subst, ap, arith}
use Rattle.std.specs.Prelude.{IsSome}
use Rattle.rtps_sets.specs.Window.{Marks}
use Rattle.rtps_sets.specs.declared.window.Mark.{Mark}
use Rattle.rtps_sets.proofs.MarkLaws.{mark_inside, in_window, none_from_rings}
use Rattle.rtps_sets.proofs.window.Window.slide.Goals as goal

pub returns-clause-over : goal.returns-clause-over
returns-clause-over c = λ n from lt.
    let low : c.self.inside.place ≤ n = omega (arith, ap (λ (w : Marks). w.place) c.self.view_is) in
    rw (← c.self.view_is)
    (subst (λ (mark : Option Mark). IsSome mark)
    (sym (mark_inside
    (record { place = c.self.inside.place; held = c.self.inside.held; irrelevant = c.self.inside.irrelevant }) n
    (in_window c.self.inside.place n low (omega (arith, c.run_end-place.ensures.within)))))
    (c.run_end-place.ensures.over n low (omega (arith, lt, c.move_to.ensures.place))))

pub returns-clause-stops : goal.returns-clause-stops
returns-clause-stops c = λ lt.
    rw (← c.self.view_is, c.move_to.ensures.place)
    (none_from_rings
    (record { place = c.self.inside.place; held = c.self.inside.held; irrelevant = c.self.inside.irrelevant })
    c.run_end-place.result c.run_end-place.ensures.forward
    (λ less. c.run_end-place.ensures.stops (omega (arith, lt, c.number.ensures.number, c.move_to.ensures.place)) less))
