use Rattle.std.proofs.Common.{◌≡◌, length, take}
use Rattle.dds_c.specs.Announcing.{AreEnds}
use Rattle.dds_c.proofs.settings.our_ends.Given as goal

-- those so far
abbrev pub invariant-loop-flat : goal.invariant-loop-flat
invariant-loop-flat l =
    AreEnds l.prefix l.all.items (take l.flat-index l.ends) l.ours.items × (length l.ours.items ≡ l.flat-index)
