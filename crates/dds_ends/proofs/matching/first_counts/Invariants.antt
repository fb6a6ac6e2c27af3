use Rattle.std.proofs.Common.{◌≡◌, map, take}
use Rattle.dds_ends.specs.MatchedEnds.{first_count}
use Rattle.dds_ends.proofs.matching.first_counts.Given as goal

abbrev pub invariant-loop-name : goal.invariant-loop-name
invariant-loop-name l = l.all.items ≡ map first_count (take l.name-index l.fn.readers)
