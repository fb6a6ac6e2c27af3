use Rattle.std.proofs.Common.{◌≤◌, ap, arith}
use Rattle.rtps_sets.specs.Window.{Marks}
use Rattle.rtps_sets.proofs.MarkLaws.{marks_from}
use Rattle.rtps_sets.proofs.window.Window.move_to.Goals as goal

pub returns-clause-marks : goal.returns-clause-marks
returns-clause-marks c = λ n.
    let forward : c.self.inside.place ≤ c.args.place =
    omega (arith, c.requires.forward, ap (λ (w : Marks). w.place) c.self.view_is) in
    rw (← c.self.view_is)
    (marks_from c.self.inside.place c.args.place n c.self.inside.held c.self.inside.irrelevant c.forget.new.ring
    c.forget-2.new.ring forward c.forget.ensures c.forget-2.ensures)
