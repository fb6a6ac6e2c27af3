-- what is due of those so far
use Rattle.std.proofs.Common.{◌≡◌, map, take}
use Rattle.dds_exchange.specs.Told.{due_of}
use Rattle.dds_exchange.proofs.told.dues_of.Given as goal

abbrev pub invariant-loop-one : goal.invariant-loop-one
invariant-loop-one l = l.dues.items ≡ map (due_of l.far) (take l.one-index l.told)
