-- the keys so far are in the index, in the room that there was
use Rattle.std.proofs.Common.{◌≡◌, ◌+◌, ◌≤◌, length, map, take}
use Rattle.dds_instances.specs.Following.{key_of}
use Rattle.dds_instances.proofs.keeping.index_anew.Given as goal

abbrev pub invariant-loop-track : goal.invariant-loop-track
invariant-loop-track l = record {
  keys : l.index.keys ≡ map key_of (take l.track-index l.tracks);
  room : length l.fn.index.keys + l.fn.index.room ≤ l.index.room + l.track-index;
}
