-- at the readers so far the deaths can be counted
use Rattle.std.proofs.Common.{◌≡◌, ℕ, ◌<◌, Some, slice_get}
use Rattle.dds_ends.specs.Expiring.{HasRoomForDeaths}
use Rattle.dds_ends.specs.Kept.{ReaderKept}
use Rattle.dds_ends.proofs.expiring.counts_deaths.Given as goal

abbrev pub invariant-loop-reader : goal.invariant-loop-reader
invariant-loop-reader l =
    (i : ℕ) (k : ReaderKept) → i < l.reader-index → slice_get l.readers i ≡ Some k → HasRoomForDeaths l.fn.now k.store
