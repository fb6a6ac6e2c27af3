use Rattle.dds_ends.proofs.Dying.{ExpiredTo}
use Rattle.dds_ends.proofs.expiring.expire_all.Given as goal

abbrev pub invariant-loop-index : goal.invariant-loop-index
invariant-loop-index l = ExpiredTo l.fn.now l.index l.initial.readers l.readers
