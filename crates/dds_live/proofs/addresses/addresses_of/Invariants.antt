-- those of the targets so far
use Rattle.std.proofs.Common.{◌≡◌, take}
use Rattle.std.specs.List.{flat_map}
use Rattle.dds_live.specs.Addresses.{locators_of}
use Rattle.dds_live.proofs.addresses.addresses_of.Given as goal

abbrev pub invariant-loop-target : goal.invariant-loop-target
invariant-loop-target l = l.addresses.items ≡ flat_map (locators_of l.domain) (take l.target-index l.targets)
