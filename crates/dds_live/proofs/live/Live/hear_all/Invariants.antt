-- those so far
use Rattle.dds_live.proofs.Laws.{any}
use Rattle.dds_live.specs.Turns.{Hearings}
use Rattle.dds_live.proofs.live.Live.hear_all.Given as goal

abbrev pub invariant-loop-count : goal.invariant-loop-count
invariant-loop-count l = Hearings l._count any l.moment l.initial.self l.initial.turn l.self l.turn
