-- What is true of the instances as they are kept. Inner functions alone cite this: nothing here has to be believed.
--
-- What is kept of instances is in DDS 1.4, 2.2.2.5 (SampleInfo); the index, memory and its room are this project's
-- own.
use Rattle.std.specs.Prelude.{◌≡◌, ◌+◌, ◌<◌, ◌≤◌, ◌^◌, map, count_by, All, vec_len, vec_capacity}
use Rattle.dds_owner.specs.Standing.{strengths_room}
use Rattle.dds_instances.specs.declared.instances.Instances.TheInside.{Inside}
use Rattle.dds_instances.specs.Track.{Fits, is_alive_track}
use Rattle.dds_instances.specs.Table.{Table}
use Rattle.dds_instances.specs.Following.{key_of, AreBlank}

-- what a contract sees of the instances
abbrev pub table_of : Inside → Table
table_of a = record {
  writers = a.writers;
  strengths = a.strengths;
  tracks = a.tracks.items;
  alive = count_by is_alive_track a.tracks.items;
  begun = a.begun;
  happened = a.happened;
  room = a.room;
}

-- the index has the keys of the instances, the counts fit, and so many more entries find memory, each with its strength
pub record IsSound (a : Inside) : Type 0 where
  pub indexed : a.index.keys ≡ map key_of a.tracks.items
  pub fits : All (Fits (a.happened + 1)) a.tracks.items
  pub blank : AreBlank a.writers a.blanks.items
  pub places : a.room ≤ a.index.room
  pub tracks_fit : vec_len a.tracks + a.room ≤ vec_capacity a.tracks
  pub blanks_fit : a.room ≤ vec_len a.blanks
  pub strengths_fit : 1 ≤ a.room → a.writers ≤ strengths_room a.strengths
  pub begun_fits : a.begun ≤ a.happened
  pub counted : a.happened + a.room < 2 ^ 64
