-- How far a reader's place goes on in the list of one of its writers, by what the reader knows: changes that are held
-- come while there is room, and what can be passed over is.
--
-- RTPS 2.5, 8.4.12 (reliable StatefulReader).
use Rattle.std.specs.Prelude.{◌≡◌, ℕ, ◌≤◌, List, true, false}
use Rattle.dds_base.specs.declared.change.Change.{Change}
use Rattle.dds_base.specs.declared.happening.Happening.{Happening}
use Rattle.dds_base.specs.declared.happening.PassedRun.{PassedRun}
use Rattle.dds_base.specs.Presence.{has_room}
use Rattle.dds_base.specs.Places.{WriterGrounds, Match, PlaceWith, coming, GoesTo}
use Rattle.rtps_reader.specs.Tracked.{Tracked, Held, is_passable}

-- what the reader may rest on: the changes that it holds, and what it may pass over
abbrev pub known : Tracked → WriterGrounds
known t = record { is_change = λ n change. t.slot n ≡ Held change; may_pass = λ n. is_passable t n ≡ true }

-- at this number the place goes no further: it can't be passed over, and a change that is held there finds no room
pub record Stops (match : Match) (t : Tracked) (at : PlaceWith) : Type 0 where
  pub not_passable : is_passable t at.place ≡ false
  pub no_room : (change : Change) → t.slot at.place ≡ Held change
      → has_room match.qos at.happened (coming match at change) ≡ false

-- the same is known from the new place on
pub record Stays (old new : Tracked) : Type 0 where
  pub slots : (n : ℕ) → new.place ≤ n → new.slot n ≡ old.slot n
  pub first : new.first ≡ old.first
  pub count : new.count ≡ old.count
  pub acknacks : new.acknacks ≡ old.acknacks

-- from what is known, and what happened, the place goes as far as it can and no further
pub record Advances (match : Match) (t : Tracked) (h : List Happening) (to : ℕ) (passed : List PassedRun)
    (new : Tracked) (after : List Happening) : Type 0 where
  -- the way: changes that come with room, and runs that are passed over, each as long as it can be
  pub goes : GoesTo (known t) match (record { place = t.place; happened = h }) passed to
      (record { place = to; happened = after })
  -- it ends where it has to
  pub stops : Stops match t (record { place = to; happened = after })
  -- the new place
  pub place : new.place ≡ to
  -- from it on nothing else changed
  pub stays : Stays t new
