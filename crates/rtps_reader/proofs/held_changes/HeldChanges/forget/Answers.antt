use Rattle.std.proofs.Common.{sym, ◌∙◌}
use Rattle.rtps_reader.proofs.HeldLaws.{empty_already}
use Rattle.rtps_reader.proofs.held_changes.HeldChanges.forget.Goals as goal

pub returns-then-not-has-clause-each : goal.returns-then-not-has-clause-each
returns-then-not-has-clause-each c = λ n.
    empty_already c.args.self.now c.args.number n (sym c.has.ensures ∙ c.if-not-has.true)
