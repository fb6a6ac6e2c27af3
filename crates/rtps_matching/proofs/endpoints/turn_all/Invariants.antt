-- those so far turned, the others are as they were
use Rattle.std.proofs.Common.{◌≡◌, ◌++◌, map, take, drop}
use Rattle.rtps_matching.specs.Steps.{turned}
use Rattle.rtps_matching.proofs.endpoints.turn_all.Given as goal

abbrev pub invariant-loop-other : goal.invariant-loop-other
invariant-loop-other l = l.far ≡ map (turned l.prefix l.awake) (take l.other-index l.fn.far) ++ drop l.other-index l.fn.far
