-- those so far are told whose leases end
use Rattle.std.proofs.Common.{◌≡◌, take}
use Rattle.rtps_discovery.specs.Steps.{told_of_ended}
use Rattle.rtps_discovery.proofs.discovery.ended.Given as goal

abbrev pub invariant-loop-row : goal.invariant-loop-row
invariant-loop-row l = l.told.items ≡ told_of_ended l.now (take l.row-index l.rows)
