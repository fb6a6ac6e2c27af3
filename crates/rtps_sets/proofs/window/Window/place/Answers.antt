use Rattle.rtps_sets.proofs.MarkLaws.{mark_outside}
use Rattle.rtps_sets.proofs.window.Window.place.Goals as goal

pub returns-clause-window : goal.returns-clause-window
returns-clause-window c = λ n is. mark_outside c.args.self.now n is
