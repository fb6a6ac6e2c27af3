use Rattle.std.proofs.Common.{length}
use Rattle.rtps_wire.proofs.ParameterLaws.{MayGoOn}
use Rattle.rtps_wire.proofs.parameters.take_parameters.Given as goal

-- reading goes on from what is left
abbrev pub invariant-loop-parameter : goal.invariant-loop-parameter
invariant-loop-parameter l = MayGoOn l.order l.bytes l.found l.left

abbrev pub decreases-loop-parameter : goal.decreases-loop-parameter
decreases-loop-parameter l = length l.left
