-- the tracks so far have taken the death up, the others are as they were
use Rattle.std.proofs.Common.{◌≡◌, ℕ, ◌<◌, ◌≤◌, length, get_or, map}
use Rattle.dds_instances.specs.declared.track.InstanceTrack.{InstanceTrack}
use Rattle.dds_instances.specs.Following.{key_of}
use Rattle.dds_instances.proofs.EndingLaws.{Buries}
use Rattle.std.specs.Prelude.{vec_len, vec_capacity}
use Rattle.dds_instances.proofs.keeping.bury_all.Given as goal

abbrev pub invariant-loop-at : goal.invariant-loop-at
invariant-loop-at l = record {
  len : length l.tracks.items ≡ length l.fn.tracks.items;
  vec_len : vec_len l.tracks ≡ vec_len l.fn.tracks;
  capacity : vec_capacity l.tracks ≡ vec_capacity l.fn.tracks;
  keys : map key_of l.tracks.items ≡ map key_of l.fn.tracks.items;
  done : (k : ℕ) (d : InstanceTrack) → k < l.at
      → Buries l.position l.writer (get_or l.fn.tracks.items k d) (get_or l.tracks.items k d);
  left : (k : ℕ) (d : InstanceTrack) → l.at ≤ k → get_or l.tracks.items k d ≡ get_or l.fn.tracks.items k d;
}
