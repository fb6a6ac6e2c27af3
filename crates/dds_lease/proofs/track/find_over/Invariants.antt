-- none up to here is it
use Rattle.std.proofs.Common.{◌≡◌, ◌+◌, ◌≤◌, drop}
use Rattle.dds_lease.specs.Track.{first_over}
use Rattle.dds_lease.proofs.track.find_over.Given as goal

abbrev pub invariant-loop-at : goal.invariant-loop-at
invariant-loop-at l = record {
  above : l.fn.after ≤ l.at;
  same : first_over l.fn.after l.now 1 l.tracks ≡ first_over l.fn.after l.now (l.at + 1) (drop l.at l.tracks);
}
