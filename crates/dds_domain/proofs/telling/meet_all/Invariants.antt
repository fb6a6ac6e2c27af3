-- those so far
use Rattle.dds_domain.specs.Sharings.{Meetings}
use Rattle.dds_domain.proofs.telling.meet_all.Given as goal

abbrev pub invariant-loop-count : goal.invariant-loop-count
invariant-loop-count l = Meetings l._count l.initial.exchange l.initial.turn l.exchange l.turn
