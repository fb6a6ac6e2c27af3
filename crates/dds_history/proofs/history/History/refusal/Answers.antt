use Rattle.std.proofs.Common.{refl}
use Rattle.dds_history.proofs.history.History.refusal.Goals as goal

pub returns : goal.returns
returns c = record { refusal = λ w s. c.cause.ensures.refusal w c.args.change.now s refl }
