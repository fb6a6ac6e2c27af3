-- those so far came
use Rattle.std.proofs.Common.{take}
use Rattle.dds_domain.specs.Sharings.{DeliversAll}
use Rattle.dds_domain.proofs.sharing.Sharing.deliver_all.Given as goal

abbrev pub invariant-loop-message : goal.invariant-loop-message
invariant-loop-message l =
    DeliversAll l.rows (take l.message-index l.messages) l.initial.self l.initial.turn l.self l.turn
