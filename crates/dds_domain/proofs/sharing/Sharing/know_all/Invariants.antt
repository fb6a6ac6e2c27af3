-- memory may have been wanting
use Rattle.dds_domain.specs.Turns.{MayLack}
use Rattle.dds_domain.proofs.sharing.Sharing.know_all.Given as goal

abbrev pub invariant-loop-end : goal.invariant-loop-end
invariant-loop-end l = MayLack l.initial.turn l.turn
