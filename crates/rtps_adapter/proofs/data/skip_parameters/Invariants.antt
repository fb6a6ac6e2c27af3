use Rattle.std.proofs.Common.{◌≤◌, length}
use Rattle.rtps_adapter.proofs.ParameterSkipping.{MayGoOn}
use Rattle.rtps_adapter.proofs.data.skip_parameters.Given as goal

-- what is left leads to the same place
abbrev pub invariant-loop-id : goal.invariant-loop-id
invariant-loop-id l = record {
  same : MayGoOn l.order l.bytes l.left;
  fewer : length l.left ≤ length l.bytes;
}

abbrev pub decreases-loop-id : goal.decreases-loop-id
decreases-loop-id l = length l.left
