-- the misfits of those so far stand behind the others
use Rattle.std.proofs.Common.{◌≡◌, ◌++◌, take}
use Rattle.rtps_matching.specs.Misfits.{misfits_with}
use Rattle.rtps_matching.proofs.misfits.put_misfits_of.Given as goal

abbrev pub invariant-loop-other : goal.invariant-loop-other
invariant-loop-other l = l.found.items ≡ l.initial.found.items ++ misfits_with (take l.other-index l.far) l.own
