-- the meetings with those so far are told
use Rattle.std.proofs.Common.{◌≡◌, take}
use Rattle.rtps_matching.specs.Steps.{meetings_of}
use Rattle.rtps_matching.proofs.endpoints.meetings_of.Given as goal

abbrev pub invariant-loop-other : goal.invariant-loop-other
invariant-loop-other l = l.told.items ≡ meetings_of (take l.other-index l.far) l.own
