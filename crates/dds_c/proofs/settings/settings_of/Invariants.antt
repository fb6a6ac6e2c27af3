use Rattle.std.proofs.Common.{◌≡◌, map, take}
use Rattle.dds_c.specs.Announcing.{locator_of}
use Rattle.dds_c.proofs.settings.settings_of.Given as goal

abbrev pub invariant-loop-one : goal.invariant-loop-one
invariant-loop-one l = l.addresses.items ≡ map locator_of (take l.one-index l.told)
