-- the meetings with those so far are told
use Rattle.std.proofs.Common.{◌≡◌, take}
use Rattle.std.specs.Prelude.{filter, flat_map}
use Rattle.rtps_matching.specs.Steps.{is_asleep, meetings_with}
use Rattle.rtps_matching.proofs.endpoints.meetings_of_participant.Given as goal

abbrev pub invariant-loop-other : goal.invariant-loop-other
invariant-loop-other l = l.told.items ≡ flat_map (meetings_with l.own) (filter (is_asleep l.prefix) (take l.other-index l.far))
