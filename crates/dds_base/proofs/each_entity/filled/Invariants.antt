-- as many up to here
use Rattle.std.proofs.Common.{◌≡◌, replicate}
use Rattle.dds_base.proofs.each_entity.filled.Given as goal

abbrev pub invariant-loop : goal.invariant-loop
invariant-loop g l =
    (x : _) → ((y : _) → g.F.Fn.post l.fn.make tt y → y ≡ x) → l.all.items ≡ replicate l.counter x
