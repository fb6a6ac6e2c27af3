use Rattle.std.proofs.Common.{◌≡◌, take}
use Rattle.dds_ends.specs.MatchedEnds.{names_of}
use Rattle.dds_ends.proofs.matching.names_of.Given as goal

abbrev pub invariant-loop-reader : goal.invariant-loop-reader
invariant-loop-reader l = l.all.items ≡ names_of (take l.reader-index l.fn.known)
