-- those of the writers so far
use Rattle.std.proofs.Common.{◌≡◌, map, take}
use Rattle.dds_lease.specs.Track.{fresh}
use Rattle.dds_lease.proofs.track.fresh_tracks.Given as goal

abbrev pub invariant-loop-writer : goal.invariant-loop-writer
invariant-loop-writer l = l.tracks.items ≡ map fresh (take l.writer-index l.writers)
