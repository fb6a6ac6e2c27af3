-- of the tracks so far nothing is held, the others are as they were
use Rattle.std.proofs.Common.{◌≡◌, ◌++◌, map, take, drop, false}
use Rattle.std.specs.Prelude.{vec_len, vec_capacity}
use Rattle.dds_instances.specs.Track.{held_as}
use Rattle.dds_instances.proofs.keeping.hold_none.Given as goal

abbrev pub invariant-loop-at : goal.invariant-loop-at
invariant-loop-at l = record {
  vec_len : vec_len l.tracks ≡ vec_len l.fn.tracks;
  capacity : vec_capacity l.tracks ≡ vec_capacity l.fn.tracks;
  items : l.tracks.items ≡ map (held_as false) (take l.at l.fn.tracks.items) ++ drop l.at l.fn.tracks.items;
}
