use Rattle.std.proofs.Common.{◌≤◌, take}
use Rattle.dds_core.specs.Observing.{Sums}
use Rattle.dds_core.specs.ObservingKept.{CountsOld}
use Rattle.dds_ends.specs.Readiness.{receiver_at}
use Rattle.dds_core.proofs.observing.count_old.Given as goal

-- to so many of the readers up to here it is old
abbrev pub invariant-loop-reader : goal.invariant-loop-reader
invariant-loop-reader l = record {
  sums : Sums (CountsOld l.fn.own l.fn.of (receiver_at l.fn.receiver) l.fn.submessage)
      (take l.reader-index l.fn.readers) l.count;
  few : l.count ≤ l.reader-index;
}
