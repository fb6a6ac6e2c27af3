use Rattle.dds_core.specs.Remembering.{AddsMiss}
use Rattle.dds_core.proofs.misses.reach.Given as goal

-- what was there, and this
abbrev pub invariant-loop : goal.invariant-loop
invariant-loop l = AddsMiss l.fn.list.items l.miss l.list.items
