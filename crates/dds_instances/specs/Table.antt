-- When what is kept of the instances stands for what happened, and how an entry more is taken up. Public contracts
-- name the counts of it, and look no further into it.
--
-- DDS 1.4, 2.2.2.5 (SampleInfo: instance_handle, instance_state, view_state, the two generation counts).
use Rattle.std.specs.Prelude.{◌≡◌, ℕ, slice_get, ◌+◌, ◌≤◌, List, ◌∷◌, length, count_by, Bool, true, ◌&&◌}
use Rattle.std.specs.List.{list_any}
use Rattle.std.specs.Prelude.{Result, IsOk, OnErr, IfErr}
use Rattle.std.specs.Option.{option_and_then}
use Rattle.dds_base.specs.declared.code.Code.{Code}
use Rattle.dds_base.specs.declared.code.Code.TheVariants.{Memory}
use Rattle.dds_base.specs.declared.key.Key.{Key}
use Rattle.dds_base.specs.declared.happening.SamplePosition.{SamplePosition}
use Rattle.dds_base.specs.declared.happening.Happening.{Happening}
use Rattle.dds_base.specs.declared.happening.Happening.TheVariants.{Took}
use Rattle.dds_base.specs.declared.qos.ReaderQos.{ReaderQos}
use Rattle.dds_base.specs.Access.{lives_begun}
use Rattle.dds_base.specs.Happening.{same_key}
use Rattle.dds_base.specs.Instance.{is_known}
use Rattle.dds_base.specs.Life.{has_there, is_at, is_nobody, last_marker}
use Rattle.dds_base.specs.Ownership.{registered_writers, writers_of}
use Rattle.dds_owner.specs.Standing.{KeptStrengths, TellsStrengths}
use Rattle.dds_instances.specs.declared.track.InstanceTrack.{InstanceTrack}
use Rattle.dds_instances.specs.Following.{Follows, IsLawful}

-- what is kept of the instances of a reader: of how many writers, how strong these are, the instances by handle, how
-- many of these are alive, how many lives have begun, how much happened, and for how many more entries there is memory
pub record Table : Type 0 where
  pub writers : ℕ
  pub strengths : KeptStrengths
  pub tracks : List InstanceTrack
  pub alive : ℕ
  pub begun : ℕ
  pub happened : ℕ
  pub room : ℕ

-- how many more entries find memory
abbrev pub room_of : Table → ℕ
room_of table = table.room

-- how many entries were taken up
abbrev pub happened_of : Table → ℕ
happened_of table = table.happened

-- how many instances are alive
abbrev pub alive_of : Table → ℕ
alive_of table = table.alive

-- of how many instances the newest entry left a marker
abbrev pub marked_of : Table → ℕ
marked_of table = count_by (λ (t : InstanceTrack). is_at t.last_marker table.happened) table.tracks

-- how an entry more is taken up, or refused
pub record TakesUpEntry (old new : Table) (answer : Result (Unit {0}) Code) : Type 0 where
  -- where there is room it is taken up
  pub reserved : 1 ≤ room_of old → IsOk answer
  -- it takes the room of one entry at most
  pub room : room_of old ≤ room_of new + 1
  -- a refusal leaves the instances as they were
  pub err : OnErr answer (new ≡ old)
  -- it is refused for want of memory alone
  pub memory : IfErr answer (λ e. e ≡ Memory)

-- the table stands for what happened at a reader of these policies
pub record Stands (q : ReaderQos) (table : Table) (h : List Happening) : Type 0 where
  pub writers_are : table.writers ≡ length (writers_of q h)
  pub happened_is : table.happened ≡ length h
  pub strengths_are : TellsStrengths table.strengths h
  pub begun_is : table.begun ≡ lives_begun q h
  pub follows : Follows q h table.tracks
  pub lawful : IsLawful q h

-- the newest entry left a marker of the instance at a place among the known ones, counted from 0
abbrev pub has_marked : Table → ℕ → Bool
has_marked table place =
    is_at (option_and_then (λ (t : InstanceTrack). t.last_marker) (slice_get table.tracks place)) table.happened

-- the instance is noted as one of which something is held
abbrev pub is_held : Table → Key → Bool
is_held table i = list_any (λ (t : InstanceTrack). same_key t.key i && t.is_held) table.tracks

-- it is noted right of each known instance whether something of it is present
abbrev pub HoldsPresent : ReaderQos → List Happening → Table → Type 0
HoldsPresent q h table = (i : Key) → is_known q h i ≡ true → is_held table i ≡ has_there q h i (last_marker q i h)

-- it is noted right of each known instance whether something of it is present once a take has returned these samples
abbrev pub HoldsLeft : ReaderQos → List Happening → List SamplePosition → Table → Type 0
HoldsLeft q h samples table =
    (i : Key) → is_known q h i ≡ true → is_held table i ≡ has_there q (Took samples ∷ h) i (last_marker q i h)

-- nobody is registered for the instance of some of these samples
abbrev pub is_any_left : ReaderQos → List Happening → List SamplePosition → Bool
is_any_left q h samples = list_any (λ (s : SamplePosition). is_nobody (registered_writers q s.key h)) samples
