use Rattle.std.proofs.Common.{◌≡◌, ℕ, ◌%◌, ◌||◌, true, false, eqb, get_or, ap, ◌∙◌, rules}
use Rattle.std.specs.Prelude.{None}
use Rattle.rtps_sets.specs.Window.{is_in_window, mark_of}
use Rattle.rtps_sets.proofs.MarkLaws.{marks_held, marks_irrelevant, none_of}
use Rattle.rtps_sets.proofs.window.Window.mark.Goals as goal

pub returns-in-Held-clause-marks : goal.returns-in-Held-clause-marks
returns-in-Held-clause-marks c = λ n.
    let at : c.place_in_ring-at.result ≡ c.args.number % 256 =
    c.place_in_ring-at.ensures ∙ ap (λ (k : ℕ). k % 256) c.number-2.ensures.number in
    let there : is_in_window c.self.inside.place c.args.number ≡ true = search rules in
    rw (c.in-Held.is, ← c.self.view_is)
    (marks_held c.self.inside.place c.args.number n c.self.inside.held c.self.inside.irrelevant c.insert.new.self there
    (λ k. c.insert.ensures.each k ∙ ap (λ (place : ℕ). get_or c.self.inside.held k false || eqb k place) at))

pub returns-in-Irrelevant-clause-marks : goal.returns-in-Irrelevant-clause-marks
returns-in-Irrelevant-clause-marks c = λ n.
    let at : c.place_in_ring-at.result ≡ c.args.number % 256 =
    c.place_in_ring-at.ensures ∙ ap (λ (k : ℕ). k % 256) c.number-2.ensures.number in
    let there : is_in_window c.self.inside.place c.args.number ≡ true = search rules in
    let none : mark_of c.args.self.now c.args.number ≡ None = none_of _ (search rules) in
    let fresh = rw (← c.self.view_is) at none in
    rw (c.in-Irrelevant.is, ← c.self.view_is)
    (marks_irrelevant c.self.inside.place c.args.number n c.self.inside.held c.self.inside.irrelevant
    c.insert-in-Irrelevant.new.self there fresh
    (λ k. c.insert-in-Irrelevant.ensures.each k
    ∙ ap (λ (place : ℕ). get_or c.self.inside.irrelevant k false || eqb k place) at))
