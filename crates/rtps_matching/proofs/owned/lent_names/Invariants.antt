-- those so far are lent
use Rattle.std.proofs.Common.{◌≡◌, take}
use Rattle.rtps_matching.proofs.owned.lent_names.Given as goal

abbrev pub invariant-loop-name : goal.invariant-loop-name
invariant-loop-name l = l.lent ≡ take l.name-index l.names
