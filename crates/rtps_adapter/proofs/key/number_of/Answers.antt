use Rattle.std.proofs.Common.{sym, arith}
use Rattle.rtps_adapter.proofs.KeyLaws.{number_beyond}
use Rattle.rtps_adapter.proofs.key.number_of.Goals as goal

pub returns-then-body-place-clause-value : goal.returns-then-body-place-clause-value
returns-then-body-place-clause-value c order =
    sym (number_beyond order c.args.place c.args.size c.args.body.now (omega (arith, c.if-body-place.true)))
