-- what came so far
use Rattle.dds_domain.specs.Sharings.{ComesSo}
use Rattle.dds_domain.proofs.sharing.Sharing.deliver_early.Given as goal

abbrev pub invariant-loop-count : goal.invariant-loop-count
invariant-loop-count l = ComesSo l._count l.rows l.initial.self l.initial.turn l.self l.turn
