-- the partings of those so far stand behind the others
use Rattle.std.proofs.Common.{◌≡◌, ◌++◌, take}
use Rattle.rtps_matching.specs.Steps.{partings_with}
use Rattle.rtps_matching.proofs.endpoints.put_partings_with.Given as goal

abbrev pub invariant-loop-end : goal.invariant-loop-end
invariant-loop-end l = l.told.items ≡ l.initial.told.items ++ partings_with (take l.end-index l.own) l.far
