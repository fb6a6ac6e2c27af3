-- those up to here
use Rattle.std.proofs.Common.{◌≡◌, ◌++◌, map, take, drop}
use Rattle.dds_conditions.specs.Watched.{without}
use Rattle.dds_conditions.proofs.watch.detach_all.Given as goal

abbrev pub invariant-loop-index : goal.invariant-loop-index
invariant-loop-index l =
    l.wait_sets ≡ map (without l.condition) (take l.index l.fn.wait_sets) ++ drop l.index l.fn.wait_sets
