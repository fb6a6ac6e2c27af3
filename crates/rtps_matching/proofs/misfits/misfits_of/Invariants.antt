-- the misfits of those so far are found
use Rattle.std.proofs.Common.{◌≡◌, take}
use Rattle.std.specs.Prelude.{flat_map}
use Rattle.rtps_matching.specs.Misfits.{misfits_with}
use Rattle.rtps_matching.proofs.misfits.misfits_of.Given as goal

abbrev pub invariant-loop-end : goal.invariant-loop-end
invariant-loop-end l = l.found.items ≡ flat_map (misfits_with l.far) (take l.end-index l.own)
