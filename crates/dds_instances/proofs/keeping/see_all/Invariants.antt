-- the instances were told of the samples so far
use Rattle.std.proofs.Common.{◌≡◌, ℕ, map, take}
use Rattle.std.specs.List.{All}
use Rattle.std.specs.Prelude.{count_by, vec_len, vec_capacity}
use Rattle.dds_instances.specs.Track.{Fits, is_alive_track, seen_in}
use Rattle.dds_instances.specs.Following.{key_of}
use Rattle.dds_instances.proofs.keeping.see_all.Given as goal

abbrev pub invariant-loop-sample : goal.invariant-loop-sample
invariant-loop-sample l = record {
  fits : (n : ℕ) → All (Fits n) l.fn.tracks.items → All (Fits n) l.tracks.items;
  keys : map key_of l.tracks.items ≡ map key_of l.fn.tracks.items;
  len : vec_len l.tracks ≡ vec_len l.fn.tracks;
  capacity : vec_capacity l.tracks ≡ vec_capacity l.fn.tracks;
  alive : count_by is_alive_track l.tracks.items ≡ count_by is_alive_track l.fn.tracks.items;
  sees : l.tracks.items ≡ map (seen_in (take l.sample-index l.samples)) l.fn.tracks.items;
}
