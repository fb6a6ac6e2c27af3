use Rattle.std.proofs.Common.{◌≡◌, drop}
use Rattle.dds_ends.specs.MatchedEnds.{last_count}
use Rattle.dds_ends.proofs.coming.last_count.Given as goal

abbrev pub invariant-loop-row : goal.invariant-loop-row
invariant-loop-row l = last_count l.fn.counts l.fn.reader ≡ last_count (drop l.row l.fn.counts) l.fn.reader
