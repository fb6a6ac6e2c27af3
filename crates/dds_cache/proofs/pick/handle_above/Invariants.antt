-- what is left decides the rest
use Rattle.std.proofs.Common.{◌≡◌, drop}
use Rattle.dds_cache.specs.Picking.{first_above}
use Rattle.dds_cache.proofs.pick.handle_above.Given as goal

abbrev pub invariant-loop-candidate : goal.invariant-loop-candidate
invariant-loop-candidate l = first_above l.previous (drop l.candidate-index l.found) ≡ first_above l.previous l.fn.found
