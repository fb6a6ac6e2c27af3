-- What is known of one instance when it was followed through what happened so far. Inner functions
-- alone cite this: nothing here has to be believed.
--
-- DDS 1.4, 2.2.2.5 (SampleInfo: instance_state, view_state, the two generation counts), 2.2.3 (OWNERSHIP).
use Rattle.std.specs.Prelude.{◌≡◌, ℕ, ◌+◌, ◌<◌, List, Bool, true, false, ◌&&◌, ◌||◌, not, Option, Some, None, is_some, IfSome, if◌then◌else◌, nat_le, nat_lt}
use Rattle.std.specs.List.{list_any}
use Rattle.dds_base.specs.declared.key.Key.{Key}
use Rattle.dds_base.specs.declared.change.ChangeKind.{ChangeKind}
use Rattle.dds_base.specs.declared.change.ChangeKind.TheVariants.{Write, Unregister}
use Rattle.dds_base.specs.declared.happening.Arrival.{Arrival}
use Rattle.dds_base.specs.declared.happening.Happening.{Happening}
use Rattle.dds_base.specs.declared.happening.SamplePosition.{SamplePosition}
use Rattle.dds_base.specs.declared.sample.InstanceState.{InstanceState}
use Rattle.dds_base.specs.declared.sample.InstanceState.TheVariants.{Alive}
use Rattle.dds_base.specs.declared.qos.ReaderQos.{ReaderQos}
use Rattle.dds_base.specs.declared.qos.OwnershipQos.TheVariants.{Shared}
use Rattle.dds_base.specs.Access.{handle_of}
use Rattle.dds_base.specs.Happening.{same_key, is_unregister}
use Rattle.dds_base.specs.Instance.{is_disposed, is_without_writers, is_known, is_since, disposed_generations, no_writers_generations, latest_rebirth, accesses}
use Rattle.dds_base.specs.Ownership.{IsMatched, is_registered}
use Rattle.dds_base.specs.Life.{or_else, is_write, state_after, becomes_not_alive, last_accepted, last_marker}
use Rattle.dds_instances.specs.declared.track.InstanceTrack.{InstanceTrack}
use Rattle.dds_owner.specs.Standing.{Kept, StandsFor, has_writers}
use Rattle.dds_instances.specs.Known.{writes_in_life}

-- the track has followed instance i through what happened
pub record Tracks (q : ReaderQos) (i : Key) (h : List Happening) (t : InstanceTrack) : Type 0 where
  pub key_is : t.key ≡ i
  pub handle_is : is_known q h i ≡ true → t.handle ≡ handle_of q h i
  pub owners_are : StandsFor t.owners q i h
  pub last_is : t.last_accepted ≡ last_accepted q i h
  pub disposed_is : t.disposed_generations ≡ disposed_generations q i h
  pub no_writers_is : t.no_writers_generations ≡ no_writers_generations q i h
  pub rebirth_is : is_known q h i ≡ true → t.latest_rebirth ≡ latest_rebirth q i h
  pub marker_is : t.last_marker ≡ last_marker q i h
  pub writes_are : t.accepted_writes ≡ writes_in_life q i h
  pub seen_is : t.is_seen ≡ list_any (accesses i (latest_rebirth q i h)) h

-- an instance of whose life nothing has come, where it is to have this handle
abbrev pub fresh : Key → ℕ → Kept → InstanceTrack
fresh key handle owners = record {
  key = key;
  handle = handle;
  owners = owners;
  last_accepted = None;
  disposed_generations = 0;
  no_writers_generations = 0;
  latest_rebirth = 0;
  last_marker = None;
  accepted_writes = 0;
  is_seen = false;
  is_held = false;
}

-- the counts and the position of the last marker are below a position
pub record Fits (n : ℕ) (t : InstanceTrack) : Type 0 where
  pub writes : t.accepted_writes < n
  pub generations : t.disposed_generations + t.no_writers_generations < n
  pub marker : IfSome t.last_marker (λ m. m < n)

-- the state of the instance that a track has followed
abbrev pub state_of_track : InstanceTrack → Option InstanceState
state_of_track t = state_after t.last_accepted (not (has_writers t.owners))

-- the state is ALIVE
abbrev pub is_alive_state : Option InstanceState → Bool
is_alive_state (Some Alive) = true
is_alive_state _ = false

-- the instance that a track has followed is alive
abbrev pub is_alive_track : InstanceTrack → Bool
is_alive_track t = is_alive_state (state_of_track t)

-- 1 where the test holds
abbrev pub one_if : Bool → ℕ
one_if b = if b then 1 else 0

-- an accepted change of this kind is the first of a life, where this was the last accepted one before, or a rebirth of
-- an instance of this state
abbrev pub is_beginning : Option ChangeKind → Option ChangeKind → Option InstanceState → Bool
is_beginning kind last before =
    (not (is_some last) && is_some kind)
    || ((is_write kind && is_disposed before) || (is_write kind && is_without_writers before))

-- a track counts the entry of position n, which its owners have taken up: its state before, and the accepted kind
pub record Counts (before : Option InstanceState) (kind : Option ChangeKind) (n : ℕ)
    (old new : InstanceTrack) : Type 0 where
  pub key : new.key ≡ old.key
  pub handle : new.handle ≡ old.handle
  pub owners : new.owners ≡ old.owners
  pub accepts : new.last_accepted ≡ or_else kind old.last_accepted
  pub disposed : new.disposed_generations ≡ old.disposed_generations + one_if (is_write kind && is_disposed before)
  pub no_writers : new.no_writers_generations ≡ old.no_writers_generations + one_if
      (is_write kind && is_without_writers before)
  pub rebirth : new.latest_rebirth ≡
      (if is_beginning kind old.last_accepted before then n else old.latest_rebirth)
  pub seen : new.is_seen ≡ (not (is_beginning kind old.last_accepted before) && old.is_seen)
  pub marker : new.last_marker ≡ (if becomes_not_alive before (state_of_track new) then Some n else old.last_marker)
  pub held : new.is_held ≡ (becomes_not_alive before (state_of_track new) || old.is_held)
  pub writes : new.accepted_writes ≡ old.accepted_writes + one_if (is_write kind)

-- a track takes up the entry of position n, of this accepted kind, whoever is registered after it
pub record TracksEntry (kind : Option ChangeKind) (n : ℕ) (old new : InstanceTrack) : Type 0 where
  pub key : new.key ≡ old.key
  pub handle : new.handle ≡ old.handle
  pub accepts : new.last_accepted ≡ or_else kind old.last_accepted
  pub disposed : new.disposed_generations ≡ old.disposed_generations + one_if
      (is_write kind && is_disposed (state_of_track old))
  pub no_writers : new.no_writers_generations ≡ old.no_writers_generations + one_if
      (is_write kind && is_without_writers (state_of_track old))
  pub rebirth : new.latest_rebirth ≡
      (if is_beginning kind old.last_accepted (state_of_track old) then n else old.latest_rebirth)
  pub seen : new.is_seen ≡ (not (is_beginning kind old.last_accepted (state_of_track old)) && old.is_seen)
  pub marker : new.last_marker ≡
      (if becomes_not_alive (state_of_track old) (state_of_track new) then Some n else old.last_marker)
  pub held : new.is_held ≡ (becomes_not_alive (state_of_track old) (state_of_track new) || old.is_held)
  pub writes : new.accepted_writes ≡ old.accepted_writes + one_if (is_write kind)

-- the first change of a life turns its instance to such a state: a dispose, or a write of a writer that is not matched
abbrev pub is_born_dead : ℕ → ℕ → ChangeKind → Bool
is_born_dead writers w Write = not (nat_lt 0 w && nat_le w writers)
is_born_dead writers w Unregister = false
is_born_dead writers w _ = true

-- a change of an unknown instance leaves nobody registered for it: it unregisters, or its writer is not matched
abbrev pub is_left_at_first : ℕ → ℕ → ChangeKind → Bool
is_left_at_first writers w kind = is_unregister kind || not (nat_lt 0 w && nat_le w writers)

-- a sample of this position was returned
abbrev pub seen_at : ℕ → InstanceTrack → InstanceTrack
seen_at position t = record t { is_seen = t.is_seen || nat_le t.latest_rebirth position }

-- these samples were returned
abbrev pub seen_in : List SamplePosition → InstanceTrack → InstanceTrack
seen_in samples t = record t { is_seen = t.is_seen || list_any (is_since t.key t.latest_rebirth) samples }

-- it is noted whether something of the instance is held
abbrev pub held_as : Bool → InstanceTrack → InstanceTrack
held_as is_held t = record t { is_held = is_held }

-- it is noted that something is held of the instance of a key
abbrev pub held_too : Key → InstanceTrack → InstanceTrack
held_too i t = held_as (same_key i t.key || t.is_held) t

-- the life of the instance goes on: somebody is registered for it, or something of it is held
abbrev pub lives_on : InstanceTrack → Bool
lives_on t = t.is_held || has_writers t.owners

-- the instance is not that of a key
abbrev pub is_other : Key → InstanceTrack → Bool
is_other i t = not (same_key t.key i)

-- a change of the instance that a track has followed is one more write of it, upon a write: of a writer that is registered,
-- where ownership is SHARED
pub record IsOneMore (q : ReaderQos) (a : Arrival) (t : InstanceTrack) : Type 0 where
  pub shared : q.ownership ≡ Shared
  pub written : is_write (Some a.change.kind) ≡ true
  pub upon : is_write t.last_accepted ≡ true
  pub registered : (h : List Happening) → StandsFor t.owners q a.change.key h
      → IsMatched q h a.writer × (is_registered a.change.key a.writer h ≡ true)

-- one more write was counted
abbrev pub with_one_more : InstanceTrack → InstanceTrack
with_one_more t = record t { accepted_writes = t.accepted_writes + 1 }
