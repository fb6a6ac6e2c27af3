-- those so far are lent
use Rattle.std.proofs.Common.{◌≡◌, take}
use Rattle.rtps_matching.proofs.owned.lent_ids.Given as goal

abbrev pub invariant-loop-id : goal.invariant-loop-id
invariant-loop-id l = l.lent ≡ take l.id-index l.ids
