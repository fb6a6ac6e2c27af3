-- the steps so far
use Rattle.dds_domain.specs.Participants.{Runs}
use Rattle.dds_domain.proofs.participant.Participant.settle.Given as goal

abbrev pub invariant-loop-count : goal.invariant-loop-count
invariant-loop-count l = Runs l._count l.initial.self l.initial.turn l.self l.turn
