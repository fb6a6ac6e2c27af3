-- the partings of those so far are told
use Rattle.std.proofs.Common.{◌≡◌, take}
use Rattle.std.specs.Prelude.{filter, flat_map}
use Rattle.rtps_matching.specs.Matches.{is_of}
use Rattle.rtps_matching.specs.Steps.{partings_with}
use Rattle.rtps_matching.proofs.endpoints.partings_of_participant.Given as goal

abbrev pub invariant-loop-other : goal.invariant-loop-other
invariant-loop-other l = l.told.items ≡ flat_map (partings_with l.own) (filter (is_of l.prefix) (take l.other-index l.far))
