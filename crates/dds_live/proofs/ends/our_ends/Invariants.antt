-- those so far
use Rattle.std.proofs.Common.{◌≡◌, length, take}
use Rattle.dds_live.specs.Ends.{AreEnds}
use Rattle.dds_live.proofs.ends.our_ends.Given as goal

abbrev pub invariant-loop-end : goal.invariant-loop-end
invariant-loop-end l = AreEnds l.prefix (take l.end-index l.ends) l.ours.items × (length l.ours.items ≡ l.end-index)
