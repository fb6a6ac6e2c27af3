-- those so far are copied
use Rattle.std.proofs.Common.{◌≡◌, take}
use Rattle.rtps_matching.proofs.owned.names_of.Given as goal

abbrev pub invariant-loop-name : goal.invariant-loop-name
invariant-loop-name l = l.all.items ≡ take l.name-index l.names
