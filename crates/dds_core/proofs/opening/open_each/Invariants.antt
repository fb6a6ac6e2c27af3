use Rattle.std.proofs.Common.{take, Ok}
use Rattle.std.specs.Fn.{FnReturnsAt}
use Rattle.dds_core.specs.OpeningEnds.{OpensEach}
use Rattle.dds_core.proofs.opening.open_each.Given as goal

abbrev pub invariant-loop-config : goal.invariant-loop-config
invariant-loop-config g l =
    OpensEach (λ config end. FnReturnsAt g.F.Fn l.make config (Ok end)) (take l.config-index l.fn.configs) l.all.items
