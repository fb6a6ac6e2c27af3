use Rattle.std.proofs.Common.{◌≡◌, drop}
use Rattle.dds_ends.specs.MatchedEnds.{known_as}
use Rattle.dds_ends.proofs.writer_end.WriterEnd.knows.Given as goal

abbrev pub invariant-loop-row : goal.invariant-loop-row
invariant-loop-row l = known_as l.self.known l.reader ≡ known_as (drop l.row l.self.known) l.reader
