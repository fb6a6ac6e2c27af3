-- the partings of those so far stand behind the others
use Rattle.std.proofs.Common.{◌≡◌, ◌++◌, take}
use Rattle.rtps_matching.specs.Steps.{partings_of}
use Rattle.rtps_matching.proofs.endpoints.put_partings_of.Given as goal

abbrev pub invariant-loop-other : goal.invariant-loop-other
invariant-loop-other l = l.told.items ≡ l.initial.told.items ++ partings_of (take l.other-index l.far) l.own
