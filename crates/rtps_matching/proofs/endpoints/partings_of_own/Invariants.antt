-- the partings of those so far are told
use Rattle.std.proofs.Common.{◌≡◌, take}
use Rattle.std.specs.Prelude.{filter, flat_map}
use Rattle.rtps_matching.specs.Matches.{is_named}
use Rattle.rtps_matching.specs.Steps.{partings_of}
use Rattle.rtps_matching.proofs.endpoints.partings_of_own.Given as goal

abbrev pub invariant-loop-end : goal.invariant-loop-end
invariant-loop-end l = l.told.items ≡ flat_map (partings_of l.far) (filter (is_named l.guid) (take l.end-index l.own))
